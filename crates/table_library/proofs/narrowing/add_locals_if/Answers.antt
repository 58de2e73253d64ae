use Rattle.std.proofs.Common.{List, sym}
use Rattle.moesi_state.specs.declared.State.TheVariants.{M}
use Rattle.class_relation.specs.declared.LocalAction.{LocalAction}
use Rattle.class_relation.specs.Actions.{silently}
use Rattle.class_relation.specs.Tables.{Table}
use Rattle.table_library.specs.Filling.{with_locals}
use Rattle.table_library.proofs.Filled.{locals_nothing, locals_twice, passing_step}
use Rattle.table_library.proofs.narrowing.add_locals_if.Goals as goal

pub loop-action-init : goal.loop-action-init
loop-action-init c = sym (locals_nothing c.args.table.now c.args.state c.args.event)

pub loop-action-preserved : goal.loop-action-preserved
loop-action-preserved c =
    passing_step (λ (xs : List LocalAction). with_locals c.args.table.now c.args.state c.args.event xs)
    (λ (t : Table) (xs : List LocalAction). with_locals t c.args.state c.args.event xs)
    (locals_twice c.args.table.now c.args.state c.args.event)
    (λ (action : LocalAction). c.args.needed)
    c.args.actions.now c.loop-action.action-index (silently M) c.loop-action.table c.add_local_if.new.table
    c.loop-action-test.true c.loop-action.invariant c.in_ok-add_local_if.ensures
