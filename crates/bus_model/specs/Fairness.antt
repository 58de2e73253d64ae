-- Fairness: how many grants another board wins while a board stays raised.
use Rattle.std.specs.Prelude.{◌≢◌, ℕ, suc, ◌≤◌, ◌==◌, List, [], ◌∷◌, IsTrue, if◌then◌else◌}
use Rattle.bus_model.specs.Events.{Event, Local, Drop, Raise, Grant, Connect, DataPhase}
use Rattle.bus_model.specs.Configuration.{Progress, is_raised}

-- The grants that another board has won since a board last raised a request, after one more event.
abbrev pub wins_with : ℕ → ℕ → ℕ → Event → ℕ
wins_with board other wins (Local b before state done) = wins
wins_with board other wins (Drop b line before) = wins
wins_with board other wins (Raise b) = if b == board then 0 else wins
wins_with board other wins (Grant by winner lines rounds) =
    if winner == other then suc wins else wins
wins_with board other wins (Connect t) = wins
wins_with board other wins (DataPhase e) = wins

-- The grants that another board has won since a board last raised a request, after more events.
abbrev pub wins_after : ℕ → ℕ → ℕ → List Event → ℕ
wins_after board other wins [] = wins
wins_after board other wins (event ∷ events) =
    wins_after board other (wins_with board other wins event) events

-- The grants that another board has won since a board last raised a request.
abbrev pub wins_since : ℕ → ℕ → List Event → ℕ
wins_since board other events = wins_after board other 0 events

-- While a board stays raised, each other board wins at most two grants.
abbrev pub GrantsAreFair : List Event → List Progress → Type 0
GrantsAreFair events boards =
    (board other : ℕ) → IsTrue (is_raised boards board) → board ≢ other
    → wins_since board other events ≤ 2
