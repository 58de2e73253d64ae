-- Contests for the bus.
use Rattle.std.specs.Prelude.{ℕ, ◌≤◌, List, length, All}

-- A number with which a board may compete.
abbrev pub IsNumber : ℕ → Type 0
IsNumber number = (1 ≤ number) × (number ≤ 1023)

-- The numbers of a contest: 1 to 16 of them. The lines settle the same way even if some are equal.
pub record IsContest (numbers : List ℕ) : Type 0 where
  pub some : 1 ≤ length numbers
  pub most : length numbers ≤ 16
  pub each : All IsNumber numbers
