-- What a reader of lines finds.
use Rattle.std.specs.Prelude.{◌≡◌, ℕ, false, List, ◌∷◌, ◌++◌, Option, Some, None, if◌then◌else◌}
use Rattle.std.specs.List.{AllByRecursion}
use Rattle.fb_text.specs.Lines.{is_line_feed}
use Rattle.journal.specs.declared.event.Event.{Event}
use Rattle.replayer.specs.declared.reader.Found.{Found}
use Rattle.replayer.specs.declared.reader.Found.TheVariants as found
use Rattle.replayer.specs.Lines.{is_end_word, event_in}

-- Bytes without a line feed.
abbrev pub LacksFeed : List ℕ → Type 0
LacksFeed bytes = AllByRecursion (λ b. is_line_feed b ≡ false) bytes

-- A text is a line, its line feed, and the rest.
pub record IsCut (text line rest : List ℕ) : Type 0 where
  pub lacks : LacksFeed line
  pub parts : text ≡ line ++ 10 ∷ rest

-- An event that was read, or none.
abbrev pub found_event : Option Event → Found
found_event None = found.Misspelled
found_event (Some event) = found.Event event

-- What a line with its line feed is.
abbrev pub found_in : List ℕ → Found
found_in bytes = if is_end_word bytes then found.End else found_event (event_in bytes)
