-- The lines of a trace, and what they spell.
use Rattle.std.specs.Prelude.{ℕ, Bool, true, false, ◌&&◌, List, [], ◌∷◌, map, Option, None, codes, if◌then◌else◌}
use Rattle.std.specs.List.{slice_split}
use Rattle.std.specs.Str.{bytes_eq}
use Rattle.fb_text.specs.Lines.{is_line_feed}
use Rattle.trace_text.specs.Reading.{pieces, event_at}
use Rattle.trace_text.specs.Spelling.{text_of_event}
use Rattle.journal.specs.declared.event.Event.{Event}

-- A line: its bytes, and whether its line feed is there.
pub record Line : Type 0 where
  pub bytes : List ℕ
  pub closed : Bool

-- A line with its line feed, and one without.
abbrev pub closed_line : List ℕ → Line
closed_line bytes = record { bytes = bytes; closed = true }

abbrev pub open_line : List ℕ → Line
open_line bytes = record { bytes = bytes; closed = false }

-- The bytes after the last line feed are a line where there are any.
abbrev pub last_line : List ℕ → List Line
last_line [] = []
last_line (b ∷ bs) = open_line (b ∷ bs) ∷ []

-- The pieces between line feeds are lines. Only the last lacks its line feed.
abbrev pub lines_of_pieces : List (List ℕ) → List Line
lines_of_pieces [] = []
lines_of_pieces (piece ∷ []) = last_line piece
lines_of_pieces (piece ∷ next ∷ pieces) = closed_line piece ∷ lines_of_pieces (next ∷ pieces)

-- The lines of a text.
unfoldable pub lines_of : List ℕ → List Line
lines_of text = lines_of_pieces (slice_split is_line_feed text)

-- Whether bytes are the word `end`.
abbrev pub is_end_word : List ℕ → Bool
is_end_word bytes = bytes_eq bytes (codes "end")

-- Whether a line is `end` with its line feed.
abbrev pub is_end : Line → Bool
is_end line = line.closed && is_end_word line.bytes

-- The lines before the first `end`, or all lines where there is none.
abbrev pub before_end : List Line → List Line
before_end [] = []
before_end (line ∷ lines) = if is_end line then [] else line ∷ before_end lines

-- The lines of a trace: those of the text before the first `end`, or all where there is none.
abbrev pub trace_of : List ℕ → List Line
trace_of text = before_end (lines_of text)

-- The event that bytes spell, where one does.
unfoldable pub event_in : List ℕ → Option Event
event_in bytes = event_at (pieces 32 bytes)

-- The event that a line spells. A line without its line feed is spelled by no event.
abbrev pub event_of : Line → Option Event
event_of line = if line.closed then event_in line.bytes else None

-- The lines of events.
abbrev pub event_lines : List Event → List Line
event_lines events = map (λ event. closed_line (text_of_event event)) events
