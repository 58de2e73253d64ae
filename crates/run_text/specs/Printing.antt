-- What printing a text does to a sink, and to a page of bytes that wait before it.
use Rattle.std.specs.Prelude.{◌≡◌, ℕ, ◌≤◌, List, [], ◌++◌, Result, OnOk, OnErr}
use Rattle.std.specs.declared.option.Option.{Option}
use Rattle.std.specs.Io.KnownBytes.{Appends}
use Rattle.fb_edge.specs.Outside.{HasCause, AppendsFront}
use Rattle.fb_text.specs.Written.{Written}

-- The text was taken whole, or a front of it where the sink failed. The count of faults never
-- falls, and a failure comes only where it rose.
pub record Printed {T E : Type 0} (before now : ℕ) (old new : Option (List ℕ)) (text : List ℕ)
    (result : Result T E) : Type 0 where
  pub whole : OnOk result (Appends old new text)
  pub front : OnErr result (AppendsFront old new text)
  pub cause : HasCause before now result

-- The bytes that the sink took and those that wait now are those that waited and the text.
pub record Passed (old new : Option (List ℕ)) (waited waiting text : List ℕ) : Type 0 where
  pub written : List ℕ
  pub taken : Appends old new written
  pub same : written ++ waiting ≡ waited ++ text

-- The text went through a page, or the sink failed at a front of the bytes that waited and the
-- text. The count of faults never falls, and a failure comes only where it rose.
pub record Paged {T E : Type 0} (before now : ℕ) (old new : Option (List ℕ))
    (waited waiting text : List ℕ) (result : Result T E) : Type 0 where
  pub whole : OnOk result (Passed old new waited waiting text)
  pub front : OnErr result (AppendsFront old new (waited ++ text))
  pub cause : HasCause before now result

-- The text went through a page.
pub record Pages (before now : ℕ) (old new : Option (List ℕ)) (waited waiting text : List ℕ) : Type
    0 where
  pub passed : Passed old new waited waiting text
  pub later : before ≤ now

-- A line that is to be written: nothing yet, and room for any line.
pub record IsReady (line : Written) : Type 0 where
  pub empty : line.bytes ≡ []
  pub room : 256 ≤ line.spare
