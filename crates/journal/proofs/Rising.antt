-- A rising list stays rising where a number above its last is put at its end.
use Rattle.std.proofs.Common.{◌≡◌, ℕ, List, [], ◌∷◌, ◌++◌, map, refl, ap, subst, sym}
use Rattle.journal.specs.Rising.{IsRising, IsAboveLast, RisesAfterFirst, IsAboveRest}

pub rising-push : (xs : List ℕ) (n : ℕ) → IsRising xs → IsAboveLast xs n → IsRising (xs ++ n ∷ [])
rising-push [] n rising above = tt
rising-push (x ∷ []) n rising above = (above, tt)
rising-push (x ∷ y ∷ rest) n rising above = (rising.0, rising-push (y ∷ rest) n rising.1 above)

pub rises-push : (xs : List ℕ) (n : ℕ) → RisesAfterFirst xs → IsAboveRest xs n → RisesAfterFirst (xs ++ n ∷ [])
rises-push [] n rising above = tt
rises-push (x ∷ rest) n rising above = rising-push rest n rising above

-- The same for the parts of items that a function gives.
pub rising-map-push :
    {X : Type 0} (f : X → ℕ) (xs : List X) (x : X) → IsRising (map f xs) → IsAboveLast (map f xs) (f x)
    → IsRising (map f (xs ++ x ∷ []))
rising-map-push f xs x rising above = subst IsRising (sym (map-snoc f xs x)) (rising-push (map f xs) (f x) rising above)
  where
    map-snoc : {X : Type 0} (f : X → ℕ) (xs : List X) (x : X) → map f (xs ++ x ∷ []) ≡ map f xs ++ f x ∷ []
    map-snoc f [] x = refl
    map-snoc f (y ∷ xs) x = ap (λ ys. f y ∷ ys) (map-snoc f xs x)

pub rises-map-push :
    {X : Type 0} (f : X → ℕ) (xs : List X) (x : X) → RisesAfterFirst (map f xs) → IsAboveRest (map f xs) (f x)
    → RisesAfterFirst (map f (xs ++ x ∷ []))
rises-map-push f [] x rising above = tt
rises-map-push f (y ∷ xs) x rising above = rising-map-push f xs x rising above
