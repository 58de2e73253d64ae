use Rattle.moesi_state.specs.declared.State.TheVariants.{M}
use Rattle.table_check.specs.Accepted.{forbidden_faults}
use Rattle.table_check.proofs.CellOrder.{states_more}
use Rattle.table_check.proofs.checking.add_all_forbidden.Goals as goal

pub loop-state-preserved : goal.loop-state-preserved
loop-state-preserved c =
    states_more (forbidden_faults c.args.table.now) c.args.states.now c.loop-state.state-index M c.args.faults.now.items
    c.loop-state.faults.items c.add_forbidden_of_state.new.faults.items
    c.loop-state-test.true c.loop-state.invariant c.in_ok-add_forbidden_of_state.ensures
