use Rattle.std.proofs.Common.{sym, ap, ◌∙◌}
use Rattle.table_library.specs.Kept.{served_states}
use Rattle.table_library.proofs.Keeping.{left_first, left_more}
use Rattle.table_library.proofs.fitting.states_left.Goals as goal

pub loop-round-init : goal.loop-round-init
loop-round-init c = c.all-left.ensures ∙ sym (left_first c.args.table.now)

pub loop-round-preserved : goal.loop-round-preserved
loop-round-preserved c =
    c.served_states-left.ensures
    ∙ ap (served_states c.args.table.now) c.loop-round.invariant
    ∙ left_more c.args.table.now c.loop-round._round
