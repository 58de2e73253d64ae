use Rattle.std.proofs.Common.{add-one, ap, length, sym, ◌-◌}
use Rattle.bus_model.specs.Effects.{filled}
use Rattle.audit.proofs.Courses.{among, not_among, past-place, set-place}
use Rattle.audit.proofs.course.fill.Goals as goal

pub returns-then-is_among : goal.returns-then-is_among
returns-then-is_among c =
    let there = among c.args.board (length c.args.boards.now) c.is_among.result c.is_among.ensures c.if-is_among.true in
    rw add-one (set-place filled c.args.boards.now c.args.board (c.board.inside.0 - 1) _ _ there.0
    (ap (λ n. n - 1) c.board.view_is) there.1 (ap filled c.course.view_is))

pub returns-else-is_among : goal.returns-else-is_among
returns-else-is_among c =
    sym (past-place filled c.args.boards.now c.args.board
    (not_among c.args.board (length c.args.boards.now) c.is_among.result c.is_among.ensures c.if-is_among.false))
