-- Changes at a place of a list, and what they keep.
use Rattle.std.proofs.Common.{◌≡◌, ℕ, zero, suc, ◌-◌, ◌<◌, ◌≤◌, List, [], ◌∷◌, map, length, set, get_or, refl, ap, arith, Some}
use Rattle.std.specs.Prelude.{slice_get}
use Rattle.bus_model.specs.Places.{at_place, change_index, change_place}

map-index :
    {X Y : Type 0} (h : X → Y) (f : X → X) (g : Y → Y) → ((x : X) → h (f x) ≡ g (h x)) → (xs : List X) (k : ℕ)
    → map h (change_index f xs k) ≡ change_index g (map h xs) k
map-index h f g e [] k = refl
map-index h f g e (x ∷ xs) zero = ap (λ y. y ∷ map h xs) (e x)
map-index h f g e (x ∷ xs) (suc k) = ap (λ ys. h x ∷ ys) (map-index h f g e xs k)

-- A part that a change changes is changed at the same place.
pub map-place :
    {X Y : Type 0} (h : X → Y) (f : X → X) (g : Y → Y) → ((x : X) → h (f x) ≡ g (h x)) → (xs : List X) (b : ℕ)
    → map h (change_place f xs b) ≡ change_place g (map h xs) b
map-place h f g e xs zero = refl
map-place h f g e xs (suc k) = map-index h f g e xs k

kept-index :
    {X Y : Type 0} (h : X → Y) (f : X → X) → ((x : X) → h (f x) ≡ h x) → (xs : List X) (k : ℕ)
    → map h (change_index f xs k) ≡ map h xs
kept-index h f e [] k = refl
kept-index h f e (x ∷ xs) zero = ap (λ y. y ∷ map h xs) (e x)
kept-index h f e (x ∷ xs) (suc k) = ap (λ ys. h x ∷ ys) (kept-index h f e xs k)

-- A part that a change keeps stays.
pub kept-place :
    {X Y : Type 0} (h : X → Y) (f : X → X) → ((x : X) → h (f x) ≡ h x) → (xs : List X) (b : ℕ)
    → map h (change_place f xs b) ≡ map h xs
kept-place h f e xs zero = refl
kept-place h f e xs (suc k) = kept-index h f e xs k

swap-index :
    {X : Type 0} (f : X → X) (xs : List X) (a b : ℕ)
    → change_index f (change_index f xs a) b ≡ change_index f (change_index f xs b) a
swap-index f [] a b = refl
swap-index f (x ∷ xs) zero zero = refl
swap-index f (x ∷ xs) zero (suc b) = refl
swap-index f (x ∷ xs) (suc a) zero = refl
swap-index f (x ∷ xs) (suc a) (suc b) = ap (λ ys. x ∷ ys) (swap-index f xs a b)

-- The same change at two places, in either order.
pub swap-place :
    {X : Type 0} (f : X → X) (xs : List X) (a b : ℕ)
    → change_place f (change_place f xs a) b ≡ change_place f (change_place f xs b) a
swap-place f xs zero zero = refl
swap-place f xs zero (suc b) = refl
swap-place f xs (suc a) zero = refl
swap-place f xs (suc a) (suc b) = swap-index f xs a b

set-index :
    (f : ℕ → ℕ) (xs : List ℕ) (k y : ℕ) → k < length xs → y ≡ get_or xs k y → set xs k (f y) ≡ change_index f xs k
set-index f [] k y l e = absurd (omega arith)
set-index f (x ∷ xs) zero y l e = ap (λ z. f z ∷ xs) e
set-index f (x ∷ xs) (suc k) y l e = ap (λ ys. x ∷ ys) (set-index f xs k y (omega arith) e)

-- A number of a list is changed by setting it.
pub set-place :
    (f : ℕ → ℕ) (xs : List ℕ) (b k y : ℕ) → 1 ≤ b → k ≡ b - 1 → b ≤ length xs → y ≡ get_or xs k y
    → set xs k (f y) ≡ change_place f xs b
set-place f xs zero k y low e high is = absurd (omega arith)
set-place f xs (suc b) k y low e high is =
    let same : k ≡ b = omega arith in
    let at : y ≡ get_or xs b y = rw same at is in rw same (set-index f xs b y (omega arith) at)

get-index : {X : Type 0} (xs : List X) (k : ℕ) (d : X) → k < length xs → slice_get xs k ≡ Some (get_or xs k d)
get-index [] k d l = absurd (omega arith)
get-index (x ∷ xs) zero d l = refl
get-index (x ∷ xs) (suc k) d l = get-index xs k d (omega arith)

-- The element at a place.
pub at-is :
    {X : Type 0} (xs : List X) (b k : ℕ) (d : X) → 1 ≤ b → k ≡ b - 1 → b ≤ length xs
    → at_place xs b ≡ Some (get_or xs k d)
at-is xs zero k d low e high = absurd (omega arith)
at-is xs (suc b) k d low e high = let same : k ≡ b = omega arith in rw same (get-index xs b d (omega arith))
