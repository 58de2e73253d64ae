-- The texts that a caller lends, as files by name.
use Rattle.std.specs.Prelude.{ℕ, List, [], codes, if◌then◌else◌}
use Rattle.std.specs.Str.{bytes_eq}
use Rattle.fb_cli.specs.Output.{Files}

-- The two files, by their names.
abbrev pub files_of : (first second : List ℕ) → Files
files_of first second name =
    if bytes_eq name (codes "first")
    then first
    else (if bytes_eq name (codes "second") then second else [])

-- The texts, and what of the file being read was not yet given.
pub record Texts : Type 0 where
  pub first : List ℕ
  pub second : List ℕ
  pub rest : List ℕ
