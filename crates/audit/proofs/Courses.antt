-- A course in a list of courses is changed.
use Rattle.std.proofs.Common.{◌≡◌, ℕ, zero, suc, ◌-◌, Bool, true, false, ◌&&◌, sym, ◌∙◌, ◌<◌, ◌≤◌, ◌⊎◌, inl, inr, List, [], ◌∷◌, length, set, get_or, refl, ap, arith}
use Rattle.std.proofs.lemmas.Bool.{and_from, and_parts, cases_lt, le-leb, leb-true}
use Rattle.std.specs.Prelude.{nat_le}
use Rattle.bus_model.specs.Places.{change_index, change_place}

module _ {X : Type 0} where
  set-index :
      (f : X → X) (xs : List X) (k : ℕ) (y d : X) → k < length xs → y ≡ f (get_or xs k d) → set xs k y ≡ change_index f xs k
  set-index f [] k y d l e = absurd (omega arith)
  set-index f (x ∷ xs) zero y d l e = ap (λ z. z ∷ xs) e
  set-index f (x ∷ xs) (suc k) y d l e = ap (λ zs. x ∷ zs) (set-index f xs k y d (omega arith) e)

  -- The element at a place is changed by setting it.
  pub set-place :
      (f : X → X) (xs : List X) (b i : ℕ) (y d : X) → 1 ≤ b → i ≡ b - 1 → b ≤ length xs → y ≡ f (get_or xs i d)
      → set xs i y ≡ change_place f xs b
  set-place f xs zero i y d low here high e = absurd (omega arith)
  set-place f xs (suc k) i y d low here high e =
      let same : i ≡ k = omega arith in
      let read : y ≡ f (get_or xs k d) = rw same at e in
      rw same (set-index f xs k y d (omega arith) read)

  past-index : (f : X → X) (xs : List X) (k : ℕ) → length xs ≤ k → change_index f xs k ≡ xs
  past-index f [] k l = refl
  past-index f (x ∷ xs) zero l = absurd (omega arith)
  past-index f (x ∷ xs) (suc k) l = ap (λ zs. x ∷ zs) (past-index f xs k (omega arith))

  -- Where there is no such place, nothing is changed.
  pub past-place :
      (f : X → X) (xs : List X) (b : ℕ) → (1 ≤ b → b ≤ length xs → ⊥) → change_place f xs b ≡ xs
  past-place f xs zero none = refl
  past-place f xs (suc k) none = past-index f xs k (late (cases_lt k (length xs)))
    where
      late : (k < length xs) ⊎ (length xs ≤ k) → length xs ≤ k
      late (inl h) = absurd (none (omega arith) (omega arith))
      late (inr h) = h

-- What the test of a place says.
pub among :
    (b n : ℕ) (r : Bool) → r ≡ (nat_le 1 b && nat_le b n) → r ≡ true → (1 ≤ b) × (b ≤ n)
among b n r is e =
    let p = and_parts (nat_le 1 b) (nat_le b n) (sym is ∙ e) in (leb-true 1 b p.0, leb-true b n p.1)

pub not_among :
    (b n : ℕ) (r : Bool) → r ≡ (nat_le 1 b && nat_le b n) → r ≡ false → 1 ≤ b → b ≤ n → ⊥
not_among b n r is e low high =
    let there = and_from (nat_le 1 b) (nat_le b n) (le-leb 1 b low) (le-leb b n high) in
    let f : ⊥ = cc in f
