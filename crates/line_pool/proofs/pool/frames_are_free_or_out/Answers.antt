use Rattle.std.proofs.Common.{◌≡◌, ℕ, ◌<◌, Bool, true, false, length, refl, inl, inr, ◌⊎◌, arith}
use Rattle.std.specs.Prelude.{slice_index_or}
use Rattle.std.proofs.lemmas.Bool.{both_ways}
use Rattle.line_pool.specs.Pools.{Pool, IsFree, IsOut}
use Rattle.line_pool.proofs.Counts.{count_all}
use Rattle.line_pool.proofs.pool.frames_are_free_or_out.Goals as goal

either :
    (pool : Pool) (frame : ℕ) → frame < length pool.out → (b : Bool) → slice_index_or pool.out frame false ≡ b
    → IsFree pool frame ⊎ IsOut pool frame
either pool frame inside true e = inr (record { inside = inside; taken = e })
either pool frame inside false e = inl (record { inside = inside; left = e })

pub returns-clause-either : goal.returns-clause-either
returns-clause-either c pool frame inside = either pool frame inside (slice_index_or pool.out frame false) refl

pub returns-clause-never_both : goal.returns-clause-never_both
returns-clause-never_both c pool frame free out = both_ways (slice_index_or pool.out frame false) free.left out.taken

pub returns-clause-some_free : goal.returns-clause-some_free
returns-clause-some_free c pool fewer all =
    let same = count_all pool.out (λ frame inside. (all frame inside).taken) in
    absurd (omega (arith, fewer, same))
