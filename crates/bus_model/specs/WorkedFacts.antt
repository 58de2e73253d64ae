-- Small lines, histories and configurations on which the definitions of the theorem are computed.
use Rattle.std.specs.Prelude.{ℕ, List, [], ◌∷◌, Some, None, take}
use Rattle.bus_model.specs.Configuration.{Configuration, Granted, opening}
use Rattle.bus_model.specs.Runs.{after_all}
use Rattle.bus_model.specs.Entries.{Entry}
use Rattle.bus_model.specs.WorkedWords.{read, write, entry}
use Rattle.bus_model.specs.WorkedRuns.{intervention, intervention_events, intervention_end}
use Rattle.bus_model.specs.WorkedRoom.{given_up, given_up_events, victim_flush, victim_flush_events}

-- The words of a line before a write.
abbrev pub old_words : List ℕ
old_words = 0 ∷ 100 ∷ 0 ∷ 0 ∷ []

-- The words of the line after it.
abbrev pub new_words : List ℕ
new_words = 0 ∷ 7 ∷ 0 ∷ 0 ∷ []

-- The entries of the intervention: the write of one board, and the read of the other.
abbrev pub intervention_entries : List Entry
intervention_entries = entry 1 1 (write 5 7) None ∷ entry 2 1 (read 5) (Some 7) ∷ []

-- The entries of the quiet read: the second entry of board 1 is a read without the bus.
abbrev pub quiet_read_entries : List Entry
quiet_read_entries =
    entry 1 1 (read 0) (Some 0) ∷ entry 1 2 (read 0) (Some 0) ∷ entry 2 1 (read 0) (Some 0) ∷ []

-- The end of the intervention, except that the owner has lost its copy.
abbrev pub lost_copy : Configuration
lost_copy = record intervention_end { rows = [] }

-- The intervention halfway: the write is done, and the read has not begun.
abbrev pub halfway : Configuration
halfway = after_all (opening intervention) (take 4 intervention_events)

-- The end of the intervention, except that a board has the bus.
abbrev pub bus_taken : Configuration
bus_taken = record intervention_end { phase = Granted 1 }

-- The bus is idle, and boards 1 and 3, with the numbers 10 and 7, have each raised a request.
abbrev pub both_raised : Configuration
both_raised = after_all (opening given_up) (take 14 given_up_events)

-- The one row of the board's cache has a line in M, and the board is to write another line.
abbrev pub owned_victim : Configuration
owned_victim = after_all (opening victim_flush) (take 4 victim_flush_events)
