-- Settling: what the arbitration lines show, round by round, while boards drive their numbers.
use Rattle.std.specs.Prelude.{◌≡◌, ◌≢◌, ℕ, zero, suc, ◌*◌, ◌/◌, ◌%◌, ◌^◌, ◌<◌, max, Bool, not, ◌&&◌, ◌==◌, bit_or, List, [], ◌∷◌, map, if◌then◌else◌}

-- The bits of an arbitration number.
abbrev pub number_bits : ℕ
number_bits = 10

-- What is on the lines while these boards drive these values: each line is wired-or.
abbrev pub wired_lines : List ℕ → ℕ
wired_lines [] = 0
wired_lines (n ∷ rest) = bit_or n (wired_lines rest)

-- Whether a bit of a number is on.
abbrev pub has_bit : ℕ → ℕ → Bool
has_bit number k = number / 2 ^ k % 2 == 1

-- What a board drives against these lines. Its first disagreement is the highest bit below k that
-- is on in the lines and off in its number. It drives its number with each bit below that one
-- cleared, or its whole number where there is none.
unfoldable pub driven_below : ℕ → ℕ → ℕ → ℕ
driven_below zero lines number = number
driven_below (suc k) lines number =
    let rest = driven_below k lines number in
    if has_bit lines k && not (has_bit number k) then number / 2 ^ k * 2 ^ k else rest

-- What a board drives against these lines.
abbrev pub driven : ℕ → ℕ → ℕ
driven lines number = driven_below number_bits lines number

-- The lines after the next round.
abbrev pub next_lines : List ℕ → ℕ → ℕ
next_lines numbers lines = wired_lines (map (λ number. driven lines number) numbers)

-- The lines after so many rounds. At first each board drives its whole number.
unfoldable pub lines_after : List ℕ → ℕ → ℕ
lines_after numbers zero = wired_lines numbers
lines_after numbers (suc k) = next_lines numbers (lines_after numbers k)

-- The least number of rounds, from this one on, after which a further round changes nothing. At
-- most this many are tried.
unfoldable pub rounds_from : ℕ → ℕ → List ℕ → ℕ
rounds_from zero k numbers = k
rounds_from (suc tries) k numbers =
    let later = rounds_from tries (suc k) numbers in
    if lines_after numbers (suc k) == lines_after numbers k then k else later

-- The number of rounds in which the lines settle.
abbrev pub settled_rounds : List ℕ → ℕ
settled_rounds numbers = rounds_from number_bits 0 numbers

-- The settled lines.
abbrev pub settled_lines : List ℕ → ℕ
settled_lines numbers = lines_after numbers (settled_rounds numbers)

-- The lines settle in so many rounds: this is the least number of rounds after which a further one
-- changes nothing.
pub record SettlesIn (numbers : List ℕ) (lines rounds : ℕ) : Type 0 where
  pub shown : lines ≡ lines_after numbers rounds
  pub stays : lines_after numbers (suc rounds) ≡ lines_after numbers rounds
  pub least : (k : ℕ) → k < rounds → lines_after numbers (suc k) ≢ lines_after numbers k

-- The highest of some numbers.
abbrev pub highest : List ℕ → ℕ
highest [] = 0
highest (n ∷ rest) = max n (highest rest)
