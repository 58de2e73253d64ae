use Rattle.audit.specs.Rows.{copy_with}
use Rattle.audit.proofs.Scans.{map-more}
use Rattle.audit.proofs.copies.keep.Goals as goal

pub loop-row-preserved : goal.loop-row-preserved
loop-row-preserved c =
    map-more (copy_with c.args.board c.args.line c.args.state c.args.words) c.args.rows.now c.loop-row.rows
    c.loop-row.row-index _ c.changed.result c.loop-row-test.true c.loop-row.invariant c.changed.ensures
