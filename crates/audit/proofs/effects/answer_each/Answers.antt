use Rattle.audit.specs.Rows.{answered_row}
use Rattle.audit.proofs.Scans.{map-more}
use Rattle.audit.proofs.effects.answer_each.Goals as goal

pub loop-row-preserved : goal.loop-row-preserved
loop-row-preserved c =
    map-more (answered_row c.args.carried.now c.args.own) c.args.rows.now c.loop-row.rows c.loop-row.row-index _
    c.answered_row.result c.loop-row-test.true c.loop-row.invariant c.answered_row.ensures
