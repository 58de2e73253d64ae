-- Which boards wait to be served, marked from the first board on.
use Rattle.std.proofs.Common.{◌≡◌, ℕ, zero, suc, ◌+◌, ◌<◌, ◌≤◌, Bool, false, not, ◌&&◌, List, [], ◌∷◌, ◌++◌, length, drop, take, refl, ap, ◌∙◌, arith}
use Rattle.std.specs.Prelude.{slice_index_or, slice_set}
use Rattle.arbiter.specs.Raised.{waiting}

next_mark :
    (raised served : List Bool) (i : ℕ) → i < length raised → i < length served
    → slice_set (take i (waiting raised served) ++ drop i raised) i
    (slice_index_or raised i false && not (slice_index_or served i false))
    ≡ take (i + 1) (waiting raised served) ++ drop (i + 1) raised
next_mark [] served i h k = absurd (omega arith)
next_mark (r ∷ raised) [] i h k = absurd (omega arith)
next_mark (r ∷ raised) (s ∷ served) zero h k = refl
next_mark (r ∷ raised) (s ∷ served) (suc i) h k =
    let next : suc i + 1 ≡ suc (i + 1) = omega arith in
    rw next (ap (λ xs. (r && not s) ∷ xs) (next_mark raised served i (omega arith) (omega arith)))

pub waiting_more :
    (raised served : List Bool) (i : ℕ) (marks : List Bool) (mark : Bool) → i < length raised → i < length served
    → marks ≡ take i (waiting raised served) ++ drop i raised
    → mark ≡ (slice_index_or raised i false && not (slice_index_or served i false))
    → slice_set marks i mark ≡ take (i + 1) (waiting raised served) ++ drop (i + 1) raised
waiting_more raised served i marks mark h k e f = rw (e, f) (next_mark raised served i h k)

pub length-waiting :
    (raised served : List Bool) → length served ≡ length raised → length (waiting raised served) ≡ length raised
length-waiting [] served e = refl
length-waiting (r ∷ raised) [] e = absurd (omega (arith, e))
length-waiting (r ∷ raised) (s ∷ served) e = ap suc (length-waiting raised served (omega (arith, e)))

pub waiting_all :
    (raised served : List Bool) (i : ℕ) (marks : List Bool) → length raised ≤ i → length served ≡ length raised
    → marks ≡ take i (waiting raised served) ++ drop i raised → marks ≡ waiting raised served
waiting_all raised served i marks h k e = e ∙ go raised served i h k
  where
    go :
        (raised served : List Bool) (i : ℕ) → length raised ≤ i → length served ≡ length raised
        → take i (waiting raised served) ++ drop i raised ≡ waiting raised served
    go [] served zero h k = refl
    go [] served (suc i) h k = refl
    go (r ∷ raised) [] i h k = absurd (omega (arith, k))
    go (r ∷ raised) (s ∷ served) zero h k = absurd (omega (arith, h))
    go (r ∷ raised) (s ∷ served) (suc i) h k =
        ap (λ xs. (r && not s) ∷ xs) (go raised served i (omega (arith, h)) (omega (arith, k)))
