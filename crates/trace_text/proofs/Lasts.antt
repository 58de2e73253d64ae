-- The last board of a list.
use Rattle.std.proofs.Common.{◌≡◌, ℕ, ◌<◌, List, [], ◌∷◌, ◌++◌, map, refl, ap}
use Rattle.journal.specs.Rising.{IsAboveLast}
use Rattle.trace_text.specs.Reading.{last_of}

-- What is above the last board is above the last, if there is one.
pub above_last : (bs : List ℕ) (n : ℕ) → last_of bs < n → IsAboveLast bs n
above_last [] n lt = tt
above_last (b ∷ []) n lt = lt
above_last (b ∷ c ∷ more) n lt = above_last (c ∷ more) n lt

-- A board at the end is the last.
pub last-push : (bs : List ℕ) (n : ℕ) → last_of (bs ++ n ∷ []) ≡ n
last-push [] n = refl
last-push (b ∷ []) n = refl
last-push (b ∷ c ∷ more) n = last-push (c ∷ more) n

pub map-push : {X : Type 0} (f : X → ℕ) (xs : List X) (x : X) → map f (xs ++ x ∷ []) ≡ map f xs ++ f x ∷ []
map-push f [] x = refl
map-push f (y ∷ xs) x = ap (λ ys. f y ∷ ys) (map-push f xs x)
