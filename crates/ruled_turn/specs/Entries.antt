-- Lists of entries. An entry is the number that made it, and its contents.
use Rattle.std.specs.Prelude.{◌≡◌, ℕ, ◌<◌, ◌≤◌, ◌==◌, if◌then◌else◌, List, [], ◌∷◌, ◌++◌, ◌⊎◌, All}

-- The entries that n made, in their order.
abbrev pub of : {E : Type 0} → ℕ → List (ℕ × E) → List (ℕ × E)
of n [] = []
of n (e ∷ es) = if e.0 == n then e ∷ of n es else of n es

-- The list goes on from what was seen: `seen` is a prefix of it.
pub record GoesOn {E : Type 0} (seen list : List (ℕ × E)) : Type 0 where
  pub more : List (ℕ × E)
  pub is : list ≡ seen ++ more

-- The list is what it was before, or has one entry of n more at its end.
abbrev pub Grows : {E : Type 0} → ℕ → List (ℕ × E) → List (ℕ × E) → Type 0
Grows {E} n before after = (after ≡ before) ⊎ ((e : E) × (after ≡ before ++ (n, e) ∷ []))

-- A turn of n: the list goes on from what n had seen, and then ends with one new entry of n, which
-- n's own entries have
-- grown by, or there is none and n's own entries are as before. Replies holds of the list right
-- before the turn and the
-- list after it.
abbrev pub Turns :
    {E : Type 0} → ℕ → (List (ℕ × E) → List (ℕ × E) → Type 0) → List (ℕ × E) → List (ℕ × E)
    → List (ℕ × E) → List (ℕ × E) → Type 0
Turns {E} n Replies seen mine seen' mine' =
    ((before : List (ℕ × E)) × (e : E) × GoesOn seen before × (seen' ≡ before ++ (n, e) ∷ [])
    × (mine' ≡ mine ++ (n, e) ∷ []) × Replies before seen')
    ⊎ (GoesOn seen seen' × (mine' ≡ mine) × Replies seen' seen')

-- The entry was made by one of the seats 1 to `many`.
abbrev pub IsBySeat : {E : Type 0} → ℕ → ℕ × E → Type 0
IsBySeat many e = (0 < e.0) × (e.0 ≤ many)

-- The list goes on from `start` by entries of the seats 1 to `many` alone.
abbrev pub GoesOnBySeats : {E : Type 0} → ℕ → List (ℕ × E) → List (ℕ × E) → Type 0
GoesOnBySeats {E} many start list =
    (added : List (ℕ × E)) × (list ≡ start ++ added) × All (IsBySeat many) added
