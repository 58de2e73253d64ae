-- What contracts see of a machine that is shared, and of its seats.
use Rattle.std.specs.Prelude.{◌≡◌, ◌⊎◌, ℕ, ◌^◌, ◌<◌, List, length, slice_index_or}
use Rattle.bus_model.specs.Setup.{Setup}
use Rattle.bus_model.specs.Events.{Event}
use Rattle.backplane.specs.declared.moved.Moved.{Moved}
use Rattle.ruled_turn.specs.declared.ruled.Ruled.{Ruled}
use Rattle.ruled_turn.specs.declared.ruled.BoardSeat.{BoardSeat}
use Rattle.ruled_turn.specs.Entries.{GoesOn}
use Rattle.ruled_turn.specs.Seats.{given, IsSeatOf, number, seen, mine, turns}
use Rattle.race_run.specs.declared.racing.Racing.{Racing}
use Rattle.race_run.specs.contracts.racing.RacingTurned.TheImpl.{ghosts}
use Rattle.race_run.specs.Histories.{IsAtEnd, IsHistory}

-- A machine that seats share.
abbrev pub Shared : Type 0
Shared = Ruled Racing Setup Event Moved

-- A seat of a board.
abbrev pub Seat : Type 0
Seat = BoardSeat Racing Setup Event Moved ghosts

-- The setup of a machine that is shared.
abbrev pub setup_of : Shared → Setup
setup_of shared = (given shared).machine.setup

-- The seat is one of this shared machine.
abbrev pub IsSeat : Shared → Seat → Type 0
IsSeat shared seat = IsSeatOf ghosts.base ghosts.admits shared seat

-- The script of the seat's board is at its end in the configuration that the setup and what the
-- seat has seen give, and what the seat has seen is a history of the setup.
pub record IsThrough (setup : Setup) (seat : Seat) : Type 0 where
  pub ended : IsAtEnd setup (seen seat) (number seat)
  pub history : IsHistory setup (seen seat)

-- The same for a seat of a machine that is shared.
abbrev pub IsDone : Shared → Seat → Type 0
IsDone shared seat = IsThrough (setup_of shared) seat

-- It is the same seat later: it keeps its number, and what it had seen and its own entries go on.
pub record IsLater (before after : Seat) : Type 0 where
  pub number : number after ≡ number before
  pub seen : GoesOn (seen before) (seen after)
  pub mine : GoesOn (mine before) (mine after)

-- The seat's board has its script at its end, or the seat has made all its turns.
abbrev pub HasWorked : Shared → Seat → Type 0
HasWorked shared seat = IsDone shared seat ⊎ (turns seat ≡ 2 ^ 40)

-- Each seat is at its place in the list, later.
abbrev pub AreLater : List Seat → List Seat → Type 0
AreLater before after =
    (k : ℕ) (d : Seat) → k < length before
    → IsLater (slice_index_or before k d) (slice_index_or after k d)
