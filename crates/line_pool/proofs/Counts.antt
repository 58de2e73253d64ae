-- How many frames are out, after one more is taken or one is given back.
use Rattle.std.proofs.Common.{◌≡◌, ℕ, zero, suc, ◌+◌, ◌<◌, Bool, true, false, List, [], ◌∷◌, length, replicate, refl, arith}
use Rattle.std.specs.Prelude.{slice_index_or, slice_set}
use Rattle.line_pool.specs.Pools.{count_out}

pub count_taken :
    (xs : List Bool) (i : ℕ) → i < length xs → slice_index_or xs i false ≡ false
    → count_out (slice_set xs i true) ≡ count_out xs + 1
count_taken [] i h e = absurd (omega arith)
count_taken (x ∷ xs) zero h e = rw e (omega arith)
count_taken (x ∷ xs) (suc i) h e = let rest = count_taken xs i (omega arith) e in omega (arith, rest)

pub count_given :
    (xs : List Bool) (i : ℕ) → i < length xs → slice_index_or xs i false ≡ true
    → count_out (slice_set xs i false) + 1 ≡ count_out xs
count_given [] i h e = absurd (omega arith)
count_given (x ∷ xs) zero h e = rw e (omega arith)
count_given (x ∷ xs) (suc i) h e = let rest = count_given xs i (omega arith) e in omega (arith, rest)

pub count_none : (n : ℕ) → count_out (replicate n false) ≡ 0
count_none zero = refl
count_none (suc n) = let rest = count_none n in omega (arith, rest)

-- Where every frame is out, as many are out as there are frames.
pub count_all :
    (xs : List Bool) → ((i : ℕ) → i < length xs → slice_index_or xs i false ≡ true) → count_out xs ≡ length xs
count_all [] each = refl
count_all (x ∷ xs) each =
    let first : x ≡ true = each 0 (omega arith) in
    let rest = count_all xs (λ i h. each (suc i) (omega (arith, h))) in
    rw first (omega (arith, rest))
