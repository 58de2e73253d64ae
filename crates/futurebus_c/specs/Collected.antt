-- A text that is collected, and how often memory was missing.
use Rattle.std.specs.Prelude.{ℕ, List}

pub record Collected : Type 0 where
  pub text : List ℕ
  pub faults : ℕ
