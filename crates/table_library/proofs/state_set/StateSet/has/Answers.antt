use Rattle.std.proofs.Common.{◌≡◌, List, filter, subst}
use Rattle.moesi_state.specs.declared.State.{State}
use Rattle.moesi_state.specs.States.{all_states}
use Rattle.table_check.specs.Marks.{mark_of}
use Rattle.table_library.specs.StateSets.{is_in}
use Rattle.table_library.proofs.Sets.{in_order}
use Rattle.table_library.proofs.state_set.StateSet.has.Goals as goal

pub returns-clause-ordered : goal.returns-clause-ordered
returns-clause-ordered c =
    subst (λ (set : List State). set ≡ filter (is_in set) all_states) c.self.view_is
    (in_order (mark_of c.self.inside.marks))
