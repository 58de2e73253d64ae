use Rattle.table_check.specs.Accepted.{forbidden_faults}
use Rattle.table_check.proofs.CellOrder.{state_cells}
use Rattle.table_check.proofs.checking.add_forbidden_of_state.Goals as goal

pub returns : goal.returns
returns c =
    state_cells (forbidden_faults c.args.table.now) c.args.state c.args.faults.now.items
    c.add_forbidden_by_kind.new.faults.items c.add_forbidden_by_event.new.faults.items
    c.in_ok-add_forbidden_by_kind.ensures c.in_ok-add_forbidden_by_event.ensures
