use Rattle.std.proofs.Common.{ap, length, true, refl, sym, ◌-◌}
use Rattle.audit.proofs.Courses.{among, not_among, past-place, set-place}
use Rattle.audit.proofs.arbitration.mark.Goals as goal

pub returns-then-is_among : goal.returns-then-is_among
returns-then-is_among c =
    let there = among c.args.board (length c.args.served.now) c.is_among.result c.is_among.ensures c.if-is_among.true in
    set-place (λ mark. true) c.args.served.now c.args.board (c.board.inside.0 - 1) true true there.0 (ap (λ n. n - 1) c.board.view_is) there.1
    refl

pub returns-else-is_among : goal.returns-else-is_among
returns-else-is_among c =
    sym (past-place (λ mark. true) c.args.served.now c.args.board
    (not_among c.args.board (length c.args.served.now) c.is_among.result c.is_among.ensures c.if-is_among.false))
