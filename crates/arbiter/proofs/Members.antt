-- The members of a list of numbers, and the highest of them.
use Rattle.std.proofs.Common.{◌≡◌, ℕ, ◌<◌, ◌≤◌, List, [], ◌∷◌, length, map, max, refl, ap, subst, sym, arith, inl, inr, ◌⊎◌}
use Rattle.std.specs.List.{AllByRecursion}
use Rattle.std.proofs.lemmas.Bool.{cases_lt}
use Rattle.bus_model.specs.Settling.{highest}

-- A number is in a list.
abbrev pub In : ℕ → List ℕ → Type 0
In x [] = ⊥
In x (y ∷ ys) = (x ≡ y) ⊎ In x ys

pub all-in : (P : ℕ → Type 0) (xs : List ℕ) → ((x : ℕ) → In x xs → P x) → AllByRecursion P xs
all-in P [] each = tt
all-in P (x ∷ xs) each = (each x (inl refl), all-in P xs (λ y h. each y (inr h)))

pub all-map : (P : ℕ → Type 0) (f : ℕ → ℕ) (xs : List ℕ) → ((x : ℕ) → In x xs → P (f x)) → AllByRecursion P (map f xs)
all-map P f [] each = tt
all-map P f (x ∷ xs) each = (each x (inl refl), all-map P f xs (λ y h. each y (inr h)))

pub in-map : (f : ℕ → ℕ) (xs : List ℕ) (x : ℕ) → In x xs → In (f x) (map f xs)
in-map f [] x h = absurd h
in-map f (y ∷ ys) x (inl e) = inl (ap f e)
in-map f (y ∷ ys) x (inr h) = inr (in-map f ys x h)

pub highest-above : (xs : List ℕ) (x : ℕ) → In x xs → x ≤ highest xs
highest-above [] x h = absurd h
highest-above (y ∷ ys) x (inl e) = omega (arith, e)
highest-above (y ∷ ys) x (inr h) = let rest : x ≤ highest ys = highest-above ys x h in omega arith

pub highest-in : (xs : List ℕ) → 1 ≤ length xs → In (highest xs) xs
highest-in [] some = absurd (omega arith)
highest-in (y ∷ []) some = inl (omega arith)
highest-in (y ∷ z ∷ zs) some = go (cases_lt y (highest (z ∷ zs))) (highest-in (z ∷ zs) (omega arith))
  where
    go :
        (y < highest (z ∷ zs)) ⊎ (highest (z ∷ zs) ≤ y) → In (highest (z ∷ zs)) (z ∷ zs)
        → (max y (highest (z ∷ zs)) ≡ y) ⊎ In (max y (highest (z ∷ zs))) (z ∷ zs)
    go (inl less) rest =
        let same : max y (highest (z ∷ zs)) ≡ highest (z ∷ zs) = omega arith in
        inr (subst (λ (n : ℕ). In n (z ∷ zs)) (sym same) rest)
    go (inr more) rest = inl (omega arith)
