-- Sets of states.
use Rattle.std.specs.Prelude.{Bool, List, [], ◌∷◌, ◌++◌, map, filter}
use Rattle.std.specs.List.{list_any}
use Rattle.moesi_state.specs.declared.State.{State}
use Rattle.moesi_state.specs.declared.State.TheVariants.{I}
use Rattle.moesi_state.specs.States.{same_state, holds, all_states}

-- Whether a state is in a set.
abbrev pub is_in : List State → State → Bool
is_in set state = list_any (λ other. same_state other state) set

-- The lists that remain of a list when any of its elements are taken out.
abbrev pub sublists : {X : Type 0} → List X → List (List X)
sublists [] = [] ∷ []
sublists (x ∷ xs) = map (λ rest. x ∷ rest) (sublists xs) ++ sublists xs

-- The state sets: the sixteen lists of different states, in the order of states, that have I.
abbrev pub state_sets : List (List State)
state_sets = map (λ holding. holding ++ I ∷ []) (sublists (filter holds all_states))
