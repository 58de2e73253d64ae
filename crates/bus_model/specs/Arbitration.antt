-- Arbitration: the boards that compete for the bus, their numbers, which of them wins, and what is
-- kept of that.
use Rattle.std.specs.Prelude.{◌≡◌, ℕ, Bool, true, false, not, ◌&&◌, ◌||◌, ◌==◌, List, IsTrue, map, filter, find, unwrap_or, if◌then◌else◌}
use Rattle.std.specs.List.{list_any}
use Rattle.bus_model.specs.Places.{change_place, places_from}
use Rattle.bus_model.specs.Settling.{highest, settled_lines, settled_rounds}
use Rattle.bus_model.specs.Setup.{Setup, number_of}
use Rattle.bus_model.specs.Configuration.{Progress, Arbitration, ByNumber, Fair, is_raised, is_served}

-- Whether a board waits to be served: it has raised a request, and was not served.
abbrev pub is_waiting : List Bool → List Progress → ℕ → Bool
is_waiting served boards board = is_raised boards board && not (is_served served board)

-- Whether any board waits to be served.
abbrev pub does_any_wait : List Bool → List Progress → Bool
does_any_wait served boards = list_any (is_waiting served boards) (places_from 1 boards)

-- Whether a board competes for the bus. By number alone each board does that has raised a request.
-- Where the bus is arbitrated fairly only those do that were not served, unless all were.
abbrev pub does_compete : Arbitration → List Progress → ℕ → Bool
does_compete ByNumber boards board = is_raised boards board
does_compete (Fair served) boards board =
    is_raised boards board && (not (does_any_wait served boards) || not (is_served served board))

-- The boards that compete for the bus.
abbrev pub competing : Arbitration → List Progress → List ℕ
competing arbitration boards = filter (does_compete arbitration boards) (places_from 1 boards)

-- The numbers of the competing boards.
abbrev pub competing_numbers : Setup → Arbitration → List Progress → List ℕ
competing_numbers setup arbitration boards =
    map (λ board. number_of setup board) (competing arbitration boards)

-- A board wins the bus: of the competing boards it is the one with the highest number, and the
-- arbitration lines settle to their value in so many rounds.
pub record Wins (setup : Setup) (arbitration : Arbitration) (boards : List Progress)
    (winner lines rounds : ℕ) : Type 0 where
  pub competes : IsTrue (does_compete arbitration boards winner)
  pub number_highest : number_of setup winner ≡ highest (competing_numbers setup arbitration boards)
  pub lines_settled : lines ≡ settled_lines (competing_numbers setup arbitration boards)
  pub rounds_settled : rounds ≡ settled_rounds (competing_numbers setup arbitration boards)

-- The board that wins: the first of the competing ones that has their highest number.
abbrev pub winner_of : Setup → Arbitration → List Progress → ℕ
winner_of setup arbitration boards =
    unwrap_or (find
    (λ board. number_of setup board == highest (competing_numbers setup arbitration boards))
    (competing arbitration boards)) 0

-- The marks of the served boards at a grant, before the winner gets one: where no board waits to be
-- served, all are cleared.
abbrev pub marks_at_grant : List Bool → List Progress → List Bool
marks_at_grant served boards =
    if does_any_wait served boards then served else map (λ mark. false) served

-- The arbitration after a board won: fairly, it was served.
abbrev pub won_by : ℕ → List Progress → Arbitration → Arbitration
won_by winner boards ByNumber = ByNumber
won_by winner boards (Fair served) =
    Fair (change_place (λ mark. true) (marks_at_grant served boards) winner)
