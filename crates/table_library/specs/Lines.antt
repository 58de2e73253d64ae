-- The lines of what a run moved.
use Rattle.std.specs.Prelude.{ℕ, zero, suc, List, [], ◌∷◌, ◌++◌, codes, decimal}
use Rattle.fb_text.specs.Written.{line_bytes}
use Rattle.journal.specs.declared.event.Event.{Event}
use Rattle.table_library.specs.declared.counts.Counts.{Counts}
use Rattle.table_library.specs.Traffic.{counts_of, memory_counts}

-- The line of a board.
abbrev pub board_line : ℕ → Counts → List ℕ
board_line board counts =
    line_bytes (codes "traffic" ∷ decimal board
    ∷ codes "connects" ∷ decimal counts.connects
    ∷ codes "words" ∷ decimal counts.words
    ∷ codes "local" ∷ decimal counts.local
    ∷ codes "served" ∷ decimal counts.served
    ∷ codes "took" ∷ decimal counts.took ∷ [])

-- The line of memory: how often it was the source, and how often it took words.
abbrev pub memory_line : ℕ × ℕ → List ℕ
memory_line counts =
    line_bytes (codes "traffic" ∷ codes "memory"
    ∷ codes "served" ∷ decimal counts.0
    ∷ codes "took" ∷ decimal counts.1 ∷ [])

-- The lines of the first boards, in order.
abbrev pub board_lines : (ℕ → Counts) → ℕ → List ℕ
board_lines counts zero = []
board_lines counts (suc boards) =
    board_lines counts boards ++ board_line (suc boards) (counts (suc boards))

-- The lines of a journal, with this many boards.
abbrev pub traffic_text : List Event → ℕ → List ℕ
traffic_text journal boards =
    board_lines (counts_of journal) boards ++ memory_line (memory_counts journal)
