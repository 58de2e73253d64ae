-- Finite lists: a test that computes true at each element of a list holds for all that the list has.
use Rattle.std.proofs.Common.{◌≡◌, ℕ, zero, suc, Bool, true, false, ◌&&◌, ◌||◌, List, [], ◌∷◌, Some, refl, subst}
use Rattle.std.specs.Prelude.{slice_get}
use Rattle.std.specs.List.{list_all, list_any}

and_left : (a b : Bool) → (a && b) ≡ true → a ≡ true
and_left true b h = refl
and_left false b h = cc

and_right : (a b : Bool) → (a && b) ≡ true → b ≡ true
and_right true b h = h
and_right false b h = cc

or_left : (a b : Bool) → a ≡ true → (a || b) ≡ true
or_left true b h = refl
or_left false b h = cc

or_right : (a b : Bool) → b ≡ true → (a || b) ≡ true
or_right true b h = refl
or_right false b h = h

-- A test that passes at each element of a list passes at the element with any number.
pub each_at :
    {X : Type 0} (test : X → Bool) (xs : List X) (n : ℕ) (x : X) → list_all test xs ≡ true → slice_get xs n ≡ Some x
    → test x ≡ true
each_at test [] n x h at = cc
each_at test (y ∷ xs) zero x h at =
    let same : y ≡ x = cc in subst (λ z. test z ≡ true) same (and_left (test y) (list_all test xs) h)
each_at test (y ∷ xs) (suc n) x h at = each_at test xs n x (and_right (test y) (list_all test xs) h) at

-- A test that passes at the element with some number passes somewhere in the list.
pub any_at :
    {X : Type 0} (test : X → Bool) (xs : List X) (n : ℕ) (x : X) → test x ≡ true → slice_get xs n ≡ Some x
    → list_any test xs ≡ true
any_at test [] n x h at = cc
any_at test (y ∷ xs) zero x h at =
    let same : x ≡ y = cc in or_left (test y) (list_any test xs) (subst (λ z. test z ≡ true) same h)
any_at test (y ∷ xs) (suc n) x h at = or_right (test y) (list_any test xs) (any_at test xs n x h at)
