-- Turns of boards of any tables. A turn is that of the filled tables, but that a board which would
-- displace a row of its own also waits for the line of this row.
use Rattle.std.specs.Prelude.{ℕ, ◌*◌, List, [], ◌∷◌, ◌++◌, Option, Some, None, if◌then◌else◌}
use Rattle.moesi_state.specs.declared.State.{State}
use Rattle.bus_model.specs.Places.{repeated}
use Rattle.bus_model.specs.Setup.{Setup, board_places, access_count}
use Rattle.bus_model.specs.Events.{Event, Local, Drop, Raise, Grant, Connect, DataPhase}
use Rattle.bus_model.specs.Configuration.{Configuration, opening, is_held}
use Rattle.bus_model.specs.Board.{access_line}
use Rattle.bus_model.specs.Turns.{Turn, Did, Waits, Finished, LineHeld, bus_holder, turn}
use Rattle.audit.specs.Filled.{filled}
use Rattle.audit.specs.Steps.{displaced, after_any}

-- An event of a board that displaces this row, or none: it waits while the row's line is held.
abbrev pub unless_held : Configuration → ℕ → Event → Option (ℕ × State) → Turn
unless_held c board event None = Did event
unless_held c board event (Some v) =
    if is_held c.phase board v.0 then Waits (LineHeld (bus_holder c.phase) v.0) else Did event

-- An event that a turn comes to, or the wait for the line of the row that it would displace.
abbrev pub event_turn : Setup → Configuration → Event → Turn
event_turn setup c (Local board before state done) =
    unless_held c board (Local board before state done)
    (displaced setup c.rows board (access_line done.access) state)
event_turn setup c (Drop board line before) = Did (Drop board line before)
event_turn setup c (Raise board) = Did (Raise board)
event_turn setup c (Grant by winner lines rounds) = Did (Grant by winner lines rounds)
event_turn setup c (Connect t) = Did (Connect t)
event_turn setup c (DataPhase e) = Did (DataPhase e)

-- A turn, where an event may have to wait for the line of a displaced row.
abbrev pub guarded : Setup → Configuration → Turn → Turn
guarded setup c (Did event) = event_turn setup c event
guarded setup c (Waits why) = Waits why
guarded setup c Finished = Finished

-- A turn of a board of any tables.
abbrev pub any_turn : Setup → Configuration → ℕ → Turn
any_turn setup c board = guarded setup c (turn (filled setup) c board)

-- The events of these turns, one after another.
abbrev pub events_of_any : Setup → Configuration → List ℕ → List Event
events_of_any setup c [] = []
events_of_any setup c (board ∷ boards) =
    elim (any_turn setup c board) [
      | Did event ↦ event ∷ events_of_any setup (after_any setup c event) boards
      | Waits why ↦ events_of_any setup c boards
      | Finished ↦ events_of_any setup c boards
    ]

-- What is played by a schedule: first its turns, and then rounds, in which each board has one turn
-- in order.
abbrev pub any_played : Setup → List ℕ → List Event
any_played setup schedule =
    events_of_any setup (opening setup)
    (schedule ++ repeated (8 * access_count setup) (board_places setup))
