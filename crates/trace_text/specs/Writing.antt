-- Words that are written one after another.
use Rattle.std.specs.Prelude.{ℕ, List, [], ◌∷◌, ◌++◌, decimal}
use Rattle.fb_text.specs.Places.{Words}

-- Words, each after this byte.
abbrev pub each_behind : ℕ → Words → List ℕ
each_behind byte [] = []
each_behind byte (w ∷ ws) = byte ∷ (w ++ each_behind byte ws)

-- Words with one space between two of them.
abbrev pub spaced : Words → List ℕ
spaced [] = []
spaced (w ∷ ws) = w ++ each_behind 32 ws

-- Boards, the first after this byte and the others after a comma.
abbrev pub led : ℕ → List ℕ → List ℕ
led byte [] = []
led byte (b ∷ bs) = byte ∷ (decimal b ++ led 44 bs)
