-- The generator of a seed, and the words that are drawn from it.
use Rattle.std.specs.Prelude.{ℕ}
use Rattle.rand_core.specs.Pcg32Seed.{pcg32_seed}
use Rattle.rand_pcg.specs.Lcg.{Lcg, advance}
use Rattle.rand_pcg.specs.Pcg.{pcg32_of_seed, multiplier_64}

-- The generator of a seed, after it gave this many words.
abbrev pub generator_after : ℕ → ℕ → Lcg
generator_after seed words = advance 64 multiplier_64 words (pcg32_of_seed (pcg32_seed 16 seed))
