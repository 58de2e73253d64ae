use Rattle.table_check.specs.Accepted.{missing_faults}
use Rattle.table_check.proofs.CellOrder.{state_cells}
use Rattle.table_check.proofs.checking.add_missing_of_state.Goals as goal

pub returns : goal.returns
returns c =
    state_cells (missing_faults c.args.table.now) c.args.state c.args.faults.now.items
    c.add_missing_by_kind.new.faults.items c.add_missing_by_event.new.faults.items
    c.in_ok-add_missing_by_kind.ensures c.in_ok-add_missing_by_event.ensures
