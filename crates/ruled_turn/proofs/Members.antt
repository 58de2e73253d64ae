-- Members of lists, each at its place.
use Rattle.std.proofs.Common.{◌≡◌, ◌⊎◌, ⊎_elim, inl, inr, ℕ, zero, suc, ◌<◌, List, [], ◌∷◌, ◌++◌, map, length, slice_get, get_or, All, length-append, refl, sym, ap, subst, arith, None, Some, Option}
use Rattle.std.proofs.lemmas.Option.{none-some}
use mathlib.Core.Option.{some, some-injective, some-ne-none}
use lib.ListN.{get_elem?}

module _ {A : Type 0} where
  pub inside : (xs : List A) (j : ℕ) (x : A) → get_elem? xs j ≡ some x → j < length xs
  inside [] j x at = absurd (some-ne-none x (sym at))
  inside (z ∷ zs) zero x at = omega arith
  inside (z ∷ zs) (suc j) x at = let h = inside zs j x at in omega arith

  -- What holds of x holds of each member of the list of x alone.
  pub alone : (P : A → Type 0) (x : A) → P x → (k : ℕ) (y : A) → get_elem? (x ∷ []) k ≡ some y → P y
  alone P x p zero y at = subst P (some-injective x y at) p
  alone P x p (suc k) y at = absurd (some-ne-none y (sym at))

  -- The same for a member at its place.
  pub alone_at : (P : ℕ → A → Type 0) (x : A) → P 0 x → (k : ℕ) (y : A) → get_elem? (x ∷ []) k ≡ some y → P k y
  alone_at P x p zero y at = subst (P 0) (some-injective x y at) p
  alone_at P x p (suc k) y at = absurd (some-ne-none y (sym at))

  pub at_end :
      (xs : List A) (x y : A) (k : ℕ) → get_elem? (xs ++ x ∷ []) k ≡ some y
      → (get_elem? xs k ≡ some y) ⊎ ((k ≡ length xs) × (x ≡ y))
  at_end [] x y zero at = inr (refl, some-injective x y at)
  at_end [] x y (suc k) at = absurd (some-ne-none y (sym at))
  at_end (z ∷ zs) x y zero at = inl at
  at_end (z ∷ zs) x y (suc k) at =
      ⊎_elim (λ e. inl e) (λ (t : (k ≡ length zs) × (x ≡ y)). inr (ap suc t.0, t.1)) (at_end zs x y k at)

  pub at_either :
      (xs ys : List A) (x : A) (k : ℕ) → get_elem? (xs ++ ys) k ≡ some x
      → ((i : ℕ) × (get_elem? xs i ≡ some x)) ⊎ ((i : ℕ) × (get_elem? ys i ≡ some x))
  at_either [] ys x k at = inr (k, at)
  at_either (z ∷ zs) ys x zero at = inl (0, at)
  at_either (z ∷ zs) ys x (suc k) at =
      ⊎_elim (λ (t : (i : ℕ) × (get_elem? zs i ≡ some x)). inl (suc t.0, t.1)) (λ t. inr t) (at_either zs ys x k at)

abbrev number_or : ℕ → Option ℕ → ℕ
number_or d None = d
number_or d (Some n) = n

pub same_number : (n m : ℕ) → Some n ≡ Some m → n ≡ m
same_number n m e = ap (number_or n) e

abbrev some_or : {A : Type 0} → A → Option A → A
some_or d None = d
some_or d (Some x) = x

pub same_some : {A : Type 0} (x y : A) → Some x ≡ Some y → x ≡ y
same_some x y e = ap (some_or x) e

pub get_push :
    {A : Type 0} (xs : List A) (x y : A) (k : ℕ) → slice_get (xs ++ x ∷ []) k ≡ Some y
    → (slice_get xs k ≡ Some y) ⊎ ((k ≡ length xs) × (x ≡ y))
get_push [] x y zero at = inr (refl, same_some x y at)
get_push [] x y (suc k) at = absurd (none-some y at)
get_push (z ∷ zs) x y zero at = inl at
get_push (z ∷ zs) x y (suc k) at =
    ⊎_elim (λ e. inl e) (λ (t : (k ≡ length zs) × (x ≡ y)). inr (ap suc t.0, t.1)) (get_push zs x y k at)

-- What holds of each element holds of one in the middle.
pub all_middle : {A : Type 0} (P : A → Type 0) (xs ys : List A) (x : A) → All P ((xs ++ x ∷ []) ++ ys) → P x
all_middle P xs ys x all =
    subst P (there xs ys x)
    (all (length xs) x (let e = length-append (xs ++ x ∷ []) ys in let e' = length-append xs (x ∷ []) in omega arith))
  where
    there : {A : Type 0} (xs ys : List A) (x : A) → get_or ((xs ++ x ∷ []) ++ ys) (length xs) x ≡ x
    there [] ys x = refl
    there (z ∷ zs) ys x = there zs ys x

pub at_mapped :
    {A B : Type 0} (f : A → B) (xs : List A) (k : ℕ) (d : A) → k < length xs
    → get_elem? (map f xs) k ≡ some (f (get_or xs k d))
at_mapped f [] k d l = absurd (omega arith)
at_mapped f (x ∷ xs) zero d l = refl
at_mapped f (x ∷ xs) (suc k) d l = at_mapped f xs k d (omega arith)
