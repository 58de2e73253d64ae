-- What the boards and memory did on the bus, counted over a journal.
use Rattle.std.specs.Prelude.{ℕ, ◌+◌, ◌-◌, ◌==◌, ◌||◌, Bool, true, false, List, count_by, sum_by, slice_index_or, if◌then◌else◌}
use Rattle.std.specs.List.{list_any}
use Rattle.bus_signals.specs.declared.BusEvent.{BusEvent}
use Rattle.bus_signals.specs.Meanings.{reads, fills_row, writes_line, writes_plain_word, broadcasts}
use Rattle.journal.specs.declared.event.Source.{Source}
use Rattle.journal.specs.declared.event.Source.TheVariants.{Nobody, Memory, Board}
use Rattle.journal.specs.declared.event.Takers.{Takers}
use Rattle.journal.specs.declared.event.Event.{Event}
use Rattle.journal.specs.declared.event.Event.TheVariants.{Local, Drop, Raise, Grant, Connect, DataPhase}
use Rattle.table_library.specs.declared.counts.Counts.{Counts}

-- The words of a line.
abbrev pub line_words : ℕ
line_words = 4

-- The words that an event reads: a line where it becomes the master's row, or else one word.
abbrev pub words_read : BusEvent → ℕ
words_read event = if fills_row event then line_words else (if reads event then 1 else 0)

-- The words that an event writes: the master's line, or one word, plain or broadcast.
abbrev pub words_written : BusEvent → ℕ
words_written event =
    if writes_line event then line_words
    else (if writes_plain_word event || broadcasts event then 1 else 0)

-- The words that a transaction of this event moves.
abbrev pub words_moved : BusEvent → ℕ
words_moved event = words_read event + words_written event

-- Whether an event of the machine connects a transaction of a board.
abbrev pub connects : ℕ → Event → Bool
connects board (Connect t) = t.master == board
connects board (DataPhase e) = false
connects board (Local b before after done) = false
connects board (Drop b line before) = false
connects board (Raise b) = false
connects board (Grant by winner lines rounds) = false

-- The words that an event of the machine moves for a transaction of a board.
abbrev pub words_by : ℕ → Event → ℕ
words_by board (DataPhase e) = if e.master == board then words_moved e.event else 0
words_by board (Connect t) = 0
words_by board (Local b before after done) = 0
words_by board (Drop b line before) = 0
words_by board (Raise b) = 0
words_by board (Grant by winner lines rounds) = 0

-- Whether an event of the machine completes an access of a board without the bus.
abbrev pub is_local : ℕ → Event → Bool
is_local board (Local b before after done) = b == board
is_local board (Connect t) = false
is_local board (DataPhase e) = false
is_local board (Drop b line before) = false
is_local board (Raise b) = false
is_local board (Grant by winner lines rounds) = false

-- Whether a source is this board, or memory.
abbrev pub is_board : ℕ → Source → Bool
is_board board Nobody = false
is_board board Memory = false
is_board board (Board b) = b == board

abbrev pub is_memory : Source → Bool
is_memory Nobody = false
is_memory Memory = true
is_memory (Board b) = false

-- Whether an event of the machine is a data phase whose source is this board, or memory.
abbrev pub served_by : (Source → Bool) → Event → Bool
served_by is_server (DataPhase e) = is_server e.source
served_by is_server (Connect t) = false
served_by is_server (Local b before after done) = false
served_by is_server (Drop b line before) = false
served_by is_server (Raise b) = false
served_by is_server (Grant by winner lines rounds) = false

-- Whether takers have this board, or memory.
abbrev pub has_board : ℕ → Takers → Bool
has_board board takers = list_any (λ b. b == board) takers.boards

abbrev pub has_memory : Takers → Bool
has_memory takers = takers.memory

-- Whether an event of the machine is a data phase in which this board takes words, or memory.
abbrev pub taken_by : (Takers → Bool) → Event → Bool
taken_by is_taker (DataPhase e) = is_taker e.takers
taken_by is_taker (Connect t) = false
taken_by is_taker (Local b before after done) = false
taken_by is_taker (Drop b line before) = false
taken_by is_taker (Raise b) = false
taken_by is_taker (Grant by winner lines rounds) = false

-- What a board did: the transactions that it connected as their master, the words that they moved,
-- the accesses that it completed without the bus, and the data phases in which it was the source,
-- and in which it was a taker.
abbrev pub counts_of : List Event → ℕ → Counts
counts_of journal board =
    record {
      connects = count_by (connects board) journal;
      words = sum_by (words_by board) journal;
      local = count_by (is_local board) journal;
      served = count_by (served_by (is_board board)) journal;
      took = count_by (taken_by (has_board board)) journal;
    }

-- The data phases in which memory was the source, and in which it was a taker.
abbrev pub memory_counts : List Event → ℕ × ℕ
memory_counts journal =
    (count_by (served_by is_memory) journal, count_by (taken_by has_memory) journal)

-- What was counted: the counts of each board, from board 1, and those of memory.
pub record Traffic : Type 0 where
  pub boards : List Counts
  pub memory : ℕ × ℕ

-- The counts of a board that did nothing.
abbrev pub no_counts : Counts
no_counts = record { connects = 0; words = 0; local = 0; served = 0; took = 0 }

-- The counts of a board.
abbrev pub counts_at : Traffic → ℕ → Counts
counts_at traffic board = slice_index_or traffic.boards (board - 1) no_counts
