-- What an explanation does to the text that it is added to.
use Rattle.std.specs.Prelude.{◌≡◌, ℕ, List, ◌++◌}

-- The new text begins with the old one.
pub record Extends (old new : List ℕ) : Type 0 where
  pub more : List ℕ
  pub whole : new ≡ old ++ more
