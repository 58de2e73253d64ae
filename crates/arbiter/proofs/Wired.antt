-- The lines while one board more drives its value.
use Rattle.std.proofs.Common.{◌≡◌, ℕ, zero, suc, ◌+◌, ◌<◌, List, [], ◌∷◌, ◌++◌, length, map, take, refl, sym, ap, ◌∙◌, arith}
use Rattle.std.specs.Prelude.{bit_or, slice_index}
use Rattle.std.specs.Int.Bits.{or_zero_r}
use Rattle.bus_model.specs.Settling.{wired_lines}
use Rattle.arbiter.proofs.Cover.{or_assoc}

wired_snoc : (xs : List ℕ) (x : ℕ) → wired_lines (xs ++ x ∷ []) ≡ bit_or (wired_lines xs) x
wired_snoc [] x = or_zero_r x
wired_snoc (y ∷ xs) x = ap (bit_or y) (wired_snoc xs x) ∙ sym (or_assoc y (wired_lines xs) x)

take_snoc : (xs : List ℕ) (i : ℕ) → i < length xs → take (i + 1) xs ≡ take i xs ++ slice_index xs i ∷ []
take_snoc [] i h = absurd (omega arith)
take_snoc (x ∷ xs) zero h = refl
take_snoc (x ∷ xs) (suc i) h =
    let next : suc i + 1 ≡ suc (i + 1) = omega arith in rw next (ap (λ ys. x ∷ ys) (take_snoc xs i (omega arith)))

pub wired_more :
    (xs : List ℕ) (i lines : ℕ) → i < length xs → lines ≡ wired_lines (take i xs)
    → bit_or lines (slice_index xs i) ≡ wired_lines (take (i + 1) xs)
wired_more xs i lines h e =
    ap (λ x. bit_or x (slice_index xs i)) e
    ∙ sym (ap wired_lines (take_snoc xs i h) ∙ wired_snoc (take i xs) (slice_index xs i))

map_snoc : (f : ℕ → ℕ) (xs : List ℕ) (x : ℕ) → map f (xs ++ x ∷ []) ≡ map f xs ++ f x ∷ []
map_snoc f [] x = refl
map_snoc f (y ∷ xs) x = ap (λ ys. f y ∷ ys) (map_snoc f xs x)

pub round_more :
    (f : ℕ → ℕ) (xs : List ℕ) (i lines driven : ℕ) → i < length xs → lines ≡ wired_lines (map f (take i xs))
    → driven ≡ f (slice_index xs i) → bit_or lines driven ≡ wired_lines (map f (take (i + 1) xs))
round_more f xs i lines driven h e d =
    ap (λ x. bit_or x driven) e
    ∙ ap (bit_or (wired_lines (map f (take i xs)))) d
    ∙ sym (ap (λ ys. wired_lines (map f ys)) (take_snoc xs i h)
    ∙ ap wired_lines (map_snoc f (take i xs) (slice_index xs i))
    ∙ wired_snoc (map f (take i xs)) (f (slice_index xs i)))
