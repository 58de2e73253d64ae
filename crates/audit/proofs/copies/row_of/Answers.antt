use Rattle.std.proofs.Common.{ap, sym, Some, ◌∙◌}
use Rattle.bus_model.specs.Configuration.{is_copy}
use Rattle.audit.proofs.Scans.{find-skip, find-stop}
use Rattle.audit.proofs.copies.row_of.Goals as goal

pub loop-row-preserved : goal.loop-row-preserved
loop-row-preserved c =
    c.loop-row.invariant
    ∙ find-skip (is_copy c.args.board c.args.line) c.args.rows.now c.loop-row.row-index _ c.loop-row-test.true
    (ap (is_copy c.args.board c.args.line) (sym c.row-item.is) ∙ sym c.is_copy.ensures ∙ c.if-is_copy.false)

pub returns-then-is_copy : goal.returns-then-is_copy
returns-then-is_copy c =
    sym (c.loop-row.invariant
    ∙ find-stop (is_copy c.args.board c.args.line) c.args.rows.now c.loop-row.row-index _ c.loop-row-test.true
    (ap (is_copy c.args.board c.args.line) (sym c.row-item.is) ∙ sym c.is_copy.ensures ∙ c.if-is_copy.true)
    ∙ ap Some (sym c.row-item.is))
