-- The seeded schedule of a number.
use Rattle.std.specs.Prelude.{ℕ, zero, suc, ◌+◌, ◌*◌, ◌%◌, List, [], ◌∷◌}
use Rattle.rand_pcg.specs.Lcg.{Lcg}
use Rattle.rand_pcg.specs.Pcg.{pcg32}
use Rattle.bus_model.specs.Turns.{seeded_word}

-- This many turns, each drawn from one word of the seed, starting at the word of this index.
abbrev pub turns_from : ℕ → ℕ → ℕ → ℕ → List ℕ
turns_from n boards index zero = []
turns_from n boards index (suc turns) =
    (1 + seeded_word n index % boards) ∷ turns_from n boards (suc index) turns

-- The seeded schedule of a number, for a setup with this many boards and accesses: sixteen turns
-- for each access.
abbrev pub seeded_turns : ℕ → ℕ → ℕ → List ℕ
seeded_turns n boards accesses = turns_from n boards 0 (16 * accesses)

-- This many turns, each drawn from the next word of a generator.
abbrev pub turns_of : Lcg → ℕ → ℕ → List ℕ
turns_of generator boards zero = []
turns_of generator boards (suc turns) =
    (1 + (pcg32 generator).0 % boards) ∷ turns_of (pcg32 generator).1 boards turns
