use Rattle.std.proofs.Common.{ap, cond, Some, ◌∙◌}
use Rattle.bus_model.specs.Board.{is_in_set}
use Rattle.audit.specs.Rows.{older_of}
use Rattle.audit.proofs.RowLists.{oldest-more}
use Rattle.audit.proofs.copies.oldest_in_set.Goals as goal

pub loop-row-preserved : goal.loop-row-preserved
loop-row-preserved c =
    oldest-more (is_in_set c.args.board c.args.sets c.args.line) c.args.rows.now c.loop-row.row-index _
    c.loop-row.first c.older_in_set-first.result c.loop-row-test.true c.loop-row.invariant
    (c.older_in_set-first.ensures
    ∙ ap (λ r.
    cond (is_in_set c.args.board c.args.sets c.args.line r) (Some (older_of c.loop-row.first r)) c.loop-row.first)
    c.row-item.is)
