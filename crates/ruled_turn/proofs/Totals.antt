-- Sums over a list, a member of which is changed.
use Rattle.std.proofs.Common.{◌≡◌, ◌≢◌, ◌⊎◌, ⊎_elim, inl, inr, ℕ, zero, suc, ◌+◌, ◌*◌, ◌≤◌, ◌<◌, List, [], ◌∷◌, ◌++◌, map, length, set, slice_get, get_or, All, length-append, refl, sym, ap, ◌∙◌, subst, arith, None, Some, Option}
use mathlib.Core.Option.{some, some-injective, some-ne-none}
use lib.ListN.{get_elem?}
use Rattle.ruled_turn.specs.Views.{total}

module _ {A : Type 0} where
  pub total_set :
      (f : A → ℕ) (xs : List A) (j : ℕ) (x y : A) → get_elem? xs j ≡ some x
      → total f (set xs j y) + f x ≡ total f xs + f y
  total_set f [] j x y at = absurd (some-ne-none x (sym at))
  total_set f (z ∷ zs) zero x y at = let same : f z ≡ f x = ap f (some-injective z x at) in omega arith
  total_set f (z ∷ zs) (suc j) x y at = let h = total_set f zs j x y at in omega arith

  pub total_append : (f : A → ℕ) (xs ys : List A) → total f (xs ++ ys) ≡ total f xs + total f ys
  total_append f [] ys = omega arith
  total_append f (x ∷ xs) ys = let h = total_append f xs ys in omega arith

  pub total_le :
      (f g : A → ℕ) (xs : List A) → ((j : ℕ) (x : A) → get_elem? xs j ≡ some x → f x ≤ g x) → total f xs ≤ total g xs
  total_le f g [] each = omega arith
  total_le f g (x ∷ xs) each =
      let h = total_le f g xs (λ j y at. each (suc j) y at) in let k = each 0 x refl in omega arith

  pub total_times : (c : ℕ) (g : A → ℕ) (xs : List A) → total (λ x. c * g x) xs ≡ c * total g xs
  total_times c g [] = omega arith
  total_times c g (x ∷ xs) =
      let h = total_times c g xs in omega (arith, Rattle.std.proofs.Common.mul-add c (g x) (total g xs))

  pub total_ones : (xs : List A) → total (λ x. 1) xs ≡ length xs
  total_ones [] = refl
  total_ones (x ∷ xs) = let h = total_ones xs in omega arith

  pub total_one : (f : A → ℕ) (xs : List A) (j : ℕ) (x : A) → get_elem? xs j ≡ some x → f x ≤ total f xs
  total_one f [] j x at = absurd (some-ne-none x (sym at))
  total_one f (z ∷ zs) zero x at = let same : f z ≡ f x = ap f (some-injective z x at) in omega arith
  total_one f (z ∷ zs) (suc j) x at = let h = total_one f zs j x at in omega arith

  -- Two members at two places.
  pub total_two :
      (f : A → ℕ) (xs : List A) (i j : ℕ) (x y : A) → i ≢ j → get_elem? xs i ≡ some x → get_elem? xs j ≡ some y
      → f x + f y ≤ total f xs
  total_two f [] i j x y apart at at' = absurd (some-ne-none x (sym at))
  total_two f (z ∷ zs) zero zero x y apart at at' = absurd (apart refl)
  total_two f (z ∷ zs) zero (suc j) x y apart at at' =
      let same : f z ≡ f x = ap f (some-injective z x at) in let h = total_one f zs j y at' in omega arith
  total_two f (z ∷ zs) (suc i) zero x y apart at at' =
      let same : f z ≡ f y = ap f (some-injective z y at') in let h = total_one f zs i x at in omega arith
  total_two f (z ∷ zs) (suc i) (suc j) x y apart at at' =
      let h = total_two f zs i j x y (λ e. apart (ap suc e)) at at' in omega arith
