-- The requests of boards for the bus.
use Rattle.std.specs.Prelude.{ℕ, suc, ◌-◌, ◌≤◌, Bool, true, false, not, ◌&&◌, ◌==◌, List, [], ◌∷◌, Option, Some, None, length, nat_lt, replicate, slice_index, slice_index_or, slice_set, if◌then◌else◌}

-- The boards' numbers, whether the bus is arbitrated fairly, and which of the boards have raised a
-- request and which were served, all in order of place. There are 16 places for requests and for
-- marks, whether they have a board or not.
pub record Requests : Type 0 where
  pub numbers : List ℕ
  pub fair : Bool
  pub raised : List Bool
  pub served : List Bool

-- The numbers of the boards that are marked, in order of place.
abbrev pub marked_numbers : List ℕ → List Bool → List ℕ
marked_numbers [] marks = []
marked_numbers (n ∷ numbers) [] = []
marked_numbers (n ∷ numbers) (mark ∷ marks) =
    let rest = marked_numbers numbers marks in
    if mark then n ∷ rest else rest

-- The first board, counted from this place, that is marked and has this number.
abbrev pub winner_from : ℕ → List ℕ → List Bool → ℕ → Option ℕ
winner_from place [] marks number = None
winner_from place (n ∷ numbers) [] number = None
winner_from place (n ∷ numbers) (mark ∷ marks) number =
    let rest = winner_from (suc place) numbers marks number in
    if mark && (n == number) then Some place else rest

-- Which boards wait to be served: they have raised a request, and were not served.
abbrev pub waiting : List Bool → List Bool → List Bool
waiting [] served = []
waiting (r ∷ raised) [] = []
waiting (r ∷ raised) (s ∷ served) = (r && not s) ∷ waiting raised served

-- Whether any board waits to be served.
abbrev pub does_any_wait : Requests → Bool
does_any_wait requests =
    nat_lt 0 (length (marked_numbers requests.numbers (waiting requests.raised requests.served)))

-- Which boards compete: those that have raised a request, or fairly, if any board waits to be
-- served, those that do.
abbrev pub contenders : Requests → List Bool
contenders requests =
    if requests.fair && does_any_wait requests
    then waiting requests.raised requests.served
    else requests.raised

-- The numbers that compete.
abbrev pub competitors : Requests → List ℕ
competitors requests = marked_numbers requests.numbers (contenders requests)

-- The first competing board with this number. Places count from 1.
abbrev pub winner_with : Requests → ℕ → Option ℕ
winner_with requests number = winner_from 1 requests.numbers (contenders requests) number

-- A board is one of those that may raise a request.
pub record IsBoard (requests : Requests) (board : ℕ) : Type 0 where
  pub low : 1 ≤ board
  pub high : board ≤ length requests.numbers

-- Whether a board has raised a request.
abbrev pub has_raised : Requests → ℕ → Bool
has_raised requests board = slice_index_or requests.raised (board - 1) false

-- Whether a board was served.
abbrev pub was_served : Requests → ℕ → Bool
was_served requests board = slice_index_or requests.served (board - 1) false

-- Whether a board competes.
abbrev pub does_compete : Requests → ℕ → Bool
does_compete requests board = slice_index_or (contenders requests) (board - 1) false

-- The number of a board.
abbrev pub number_at : Requests → ℕ → ℕ
number_at requests board = slice_index requests.numbers (board - 1)

-- Nobody has raised a request, and nobody was served.
abbrev pub nobody_raised : List ℕ → Bool → Requests
nobody_raised numbers fair =
    record {
      numbers = numbers;
      fair = fair;
      raised = replicate 16 false;
      served = replicate 16 false;
    }

-- The requests after a board raised one, or lowered it.
abbrev pub with_request : Requests → ℕ → Bool → Requests
with_request requests board raised =
    record requests { raised = slice_set requests.raised (board - 1) raised }

-- The marks of the served boards at a grant, before the winner gets one: where no board waits to be
-- served, all are cleared.
abbrev pub marks_at_grant : Requests → List Bool
marks_at_grant requests =
    if does_any_wait requests then requests.served else replicate 16 false

-- The requests with a mark for a winner, if they are fair.
abbrev pub with_mark : Requests → ℕ → Requests
with_mark requests winner =
    if requests.fair
    then record requests { served = slice_set (marks_at_grant requests) (winner - 1) true }
    else requests

-- The requests after a board won the bus: its request is lowered, and it was served.
abbrev pub won_by : Requests → ℕ → Requests
won_by requests winner = with_request (with_mark requests winner) winner false
