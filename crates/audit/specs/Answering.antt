-- The answers of boards of any tables to a transaction.
use Rattle.std.specs.Prelude.{ℕ, Bool, not, ◌&&◌, ◌==◌, List, take, filter}
use Rattle.bus_signals.specs.declared.BusEvent.{BusEvent}
use Rattle.moesi_state.specs.States.{holds}
use Rattle.bus_model.specs.Setup.{Setup, board_places}
use Rattle.bus_model.specs.Events.{Answer}
use Rattle.bus_model.specs.Configuration.{Configuration, Row, state_at}
use Rattle.bus_model.specs.Turns.{decide_answer}
use Rattle.audit.specs.Filled.{filled}

-- The answer that a board picks.
abbrev pub answer_from : Setup → Configuration → ℕ → BusEvent → ℕ → Answer
answer_from setup c line event board =
    record { board = board; action = decide_answer (filled setup) c board line event }

-- Whether another board holds a line.
abbrev pub is_other_holder : List Row → ℕ → ℕ → ℕ → Bool
is_other_holder rows master line board = not (board == master) && holds (state_at rows board line)

-- The other holders of a line among the first boards.
abbrev pub holders_among : Setup → List Row → ℕ → ℕ → ℕ → List ℕ
holders_among setup rows master line count =
    filter (is_other_holder rows master line) (take count (board_places setup))
