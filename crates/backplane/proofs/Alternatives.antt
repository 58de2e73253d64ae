-- Searches in a cell are tests of some alternative.
use Rattle.std.proofs.Common.{◌≡◌, [], ◌∷◌, List, ap, refl}
use Rattle.std.specs.Prelude.{◌||◌}
use Rattle.std.specs.List.{list_any}
use Rattle.class_relation.specs.declared.LocalAction.{LocalAction}
use Rattle.class_relation.specs.declared.SnoopAction.{SnoopAction}
use Rattle.class_relation.specs.Actions.{has_answer, has_local, same_answer, same_local}

pub any_local :
    (xs : List LocalAction) (action : LocalAction) → list_any (λ a. same_local a action) xs ≡ has_local xs action
any_local [] action = refl
any_local (x ∷ xs) action = ap (λ b. same_local x action || b) (any_local xs action)

pub any_answer :
    (xs : List SnoopAction) (action : SnoopAction) → list_any (λ a. same_answer a action) xs ≡ has_answer xs action
any_answer [] action = refl
any_answer (x ∷ xs) action = ap (λ b. same_answer x action || b) (any_answer xs action)
