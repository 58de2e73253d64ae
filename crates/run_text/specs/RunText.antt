-- The text of a run: the line of each event, `end`, and the ending.
use Rattle.std.specs.Prelude.{ℕ, List, [], ◌∷◌, ◌++◌, codes}
use Rattle.std.specs.List.{flat_map}
use Rattle.fb_text.specs.Written.{line_bytes}
use Rattle.trace_text.specs.Spelling.{line_of_event}
use Rattle.bus_model.specs.Setup.{Setup, board_places, line_count}
use Rattle.bus_model.specs.Events.{Event}
use Rattle.bus_model.specs.Configuration.{Configuration, memory_line, row_at}
use Rattle.bus_model.specs.Entries.{Entry, entries, entries_of}
use Rattle.run_text.specs.Lines.{numbers_below, entry_line, memory_text, row_text}

-- The replies to the reads of a board, in order.
abbrev pub board_replies : List Entry → ℕ → List ℕ
board_replies history board = flat_map entry_line (entries_of board history)

-- The replies to the reads of the boards, board by board.
abbrev pub replies_text : List Entry → List ℕ → List ℕ
replies_text history boards = flat_map (board_replies history) boards

-- A line of memory.
abbrev pub memory_of : Configuration → ℕ → List ℕ
memory_of c line = memory_text line (memory_line c.memory line)

-- The lines of memory, in order.
abbrev pub all_memory : Configuration → ℕ → List ℕ
all_memory c lines = flat_map (memory_of c) (numbers_below lines)

-- The copy that a board has of a line, if it has one.
abbrev pub copy_of : Configuration → ℕ → ℕ → List ℕ
copy_of c board line = row_text board line (row_at c.rows board line)

-- The copies of a board, in order of line.
abbrev pub board_copies : Configuration → ℕ → ℕ → List ℕ
board_copies c lines board = flat_map (copy_of c board) (numbers_below lines)

-- The copies of the boards, board by board.
abbrev pub all_copies : Configuration → ℕ → List ℕ → List ℕ
all_copies c lines boards = flat_map (board_copies c lines) boards

-- The ending of a run: its replies, and then the memory and the copies to which it leads.
abbrev pub ending : Setup → List Event → Configuration → List ℕ
ending setup events c =
    replies_text (entries events) (board_places setup)
    ++ (all_memory c (line_count setup) ++ all_copies c (line_count setup) (board_places setup))

-- The lines of events.
abbrev pub events_text : List Event → List ℕ
events_text events = flat_map line_of_event events

-- The text of a run.
abbrev pub run_text : Setup → List Event → Configuration → List ℕ
run_text setup events c =
    events_text events ++ (line_bytes (codes "end" ∷ []) ++ ending setup events c)
