-- The parts of the machine that change, and the configuration that they show.
use Rattle.std.specs.Prelude.{◌≡◌, ℕ, ◌*◌, ◌^◌, ◌<◌, ◌≤◌, Bool, true, false, List, [], ◌∷◌, Option, Some, None, IsTrue, IsFalse, map, length}
use Rattle.moesi_state.specs.States.{holds}
use Rattle.bus_model.specs.Setup.{Setup, BoardSpec}
use Rattle.bus_model.specs.Events.{Transaction}
use Rattle.bus_model.specs.Configuration.{Configuration, Progress, Arbitration, ByNumber, Fair, lines_of_words, has_row}
use Rattle.arbiter.specs.Raised.{Requests}
use Rattle.bus_model.specs.Configuration as model
use Rattle.bus_model.specs.Carrying.{master_state}
use Rattle.board.specs.Rack.{CountsFit, can_fill, setup_of}
use Rattle.board.specs.Shown.{RackShows}
use Rattle.data_phase.specs.Seen.{AreOthers}
use Rattle.backplane.specs.declared.phase.Phase.{Phase}
use Rattle.backplane.specs.declared.phase.Phase.TheVariants.{Idle, Granted, Connected}
use Rattle.backplane.specs.declared.parts.Parts.{Parts}

-- The phase, as the model has it.
abbrev pub phase_of : Phase → model.Phase
phase_of Idle = model.Idle
phase_of (Granted board) = model.Granted board
phase_of (Connected transaction) = model.Connected transaction

-- The first of these marks say of each board whether it has raised a request.
abbrev pub MarksFit : List Progress → List Bool → Type 0
MarksFit [] marks = Unit {0}
MarksFit (p ∷ boards) [] = ⊥
MarksFit (p ∷ boards) (mark ∷ marks) = (mark ≡ p.raised) × MarksFit boards marks

-- The first of these marks are those of the boards that were served.
abbrev pub ServedFit : List Bool → List Bool → Type 0
ServedFit [] marks = Unit {0}
ServedFit (s ∷ served) [] = ⊥
ServedFit (s ∷ served) (mark ∷ marks) = (mark ≡ s) × ServedFit served marks

-- The arbiter arbitrates as the configuration says, and marks the boards that were served there.
abbrev pub ArbitrationShows : Arbitration → Requests → Type 0
ArbitrationShows ByNumber requests = requests.fair ≡ false
ArbitrationShows (Fair served) requests =
    (requests.fair ≡ true) × ServedFit served requests.served

-- The parts are of a setup and show a configuration: the rack has its tables, boards, rows and
-- counts, memory its words, the arbiter its numbers, requests and marks, and the rest its places
-- and its phase.
pub record PartsShow (setup : Setup) (c : Configuration) (parts : Parts) : Type 0 where
  pub tables : parts.rack.tables ≡ setup.tables
  pub boards : parts.rack.specs ≡ setup.boards
  pub rack : RackShows c parts.rack
  pub memory : lines_of_words parts.memory ≡ c.memory
  pub numbers : parts.requests.numbers ≡ map (λ (spec : BoardSpec). spec.number) setup.boards
  pub raised : MarksFit c.boards parts.requests.raised
  pub arbitration : ArbitrationShows c.arbitration parts.requests
  pub places : parts.places.items ≡ map (λ (p : Progress). p.place) c.boards
  pub phase : phase_of parts.phase ≡ c.phase

-- A board is one of the boards of these parts.
pub record IsPartOf (parts : Parts) (board : ℕ) : Type 0 where
  pub low : 1 ≤ board
  pub rack : board ≤ length parts.rack.specs
  pub requests : board ≤ length parts.requests.numbers
  pub places : board ≤ length parts.places.items

-- Each place is below the end of its type.
abbrev pub PlacesFit : List ℕ → Type 0
PlacesFit [] = Unit {0}
PlacesFit (place ∷ rest) = (place < 2 ^ 31) × PlacesFit rest

-- There are few boards, and no count is near the end of its type.
pub record CountsAreLow (parts : Parts) : Type 0 where
  pub boards : length parts.rack.specs ≤ 16
  pub counts : CountsFit parts.rack.counts
  pub places : PlacesFit parts.places.items

-- The data of a transaction can move: its line is in memory, its answers are of other boards, and
-- its master has a row of the line or room for one, where it is to have one.
pub record CanCarry (parts : Parts) (t : Transaction) : Type 0 where
  pub master : IsPartOf parts t.master
  pub line : 4 * t.line < length parts.memory
  pub others : AreOthers parts.rack t.master t.answers
  pub room :
      IsFalse (has_row parts.rack.rows t.master t.line) → IsTrue (holds (master_state t))
      → IsTrue (can_fill (setup_of parts.rack) parts.rack.rows t.master t.line)

-- The transaction that is connected, where one is.
abbrev pub connection_in : model.Phase → Option Transaction
connection_in model.Idle = None
connection_in (model.Granted board) = None
connection_in (model.Connected transaction) = Some transaction
