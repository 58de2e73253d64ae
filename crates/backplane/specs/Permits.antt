-- What the answer of a test of an event means.
use Rattle.std.specs.Prelude.{◌≡◌, ◌↔◌, ℕ, Bool, true, false, ◌&&◌, ◌==◌, List, [], ◌∷◌, Some, IsTrue, filter, length}
use Rattle.bus_signals.specs.declared.Access.{Access}
use Rattle.bus_signals.specs.declared.BusEvent.{BusEvent}
use Rattle.class_relation.specs.Actions.{has_answer}
use Rattle.class_relation.specs.Tables.{answers_of}
use Rattle.bus_model.specs.Setup.{Setup, WellFormed, table_of}
use Rattle.bus_model.specs.Events.{Event, Answer, Transaction}
use Rattle.bus_model.specs.Configuration.{Configuration, Row, present_access, state_at}
use Rattle.bus_model.specs.Steps.{Can}
use Rattle.bus_model.specs.Soundness.{Sound}
use Rattle.bus_model.specs.Settling.{highest, settled_lines, settled_rounds}
use Rattle.backplane.specs.declared.parts.Parts.{Parts}
use Rattle.backplane.specs.Parts.{PartsShow, IsPartOf}
use Rattle.arbiter.specs.Raised.{has_raised, does_compete}
use Rattle.board.specs.Rack.{Rack, setup_of}
use Rattle.connect_phase.specs.Answering.{is_other_holder}

-- The parts show a sound configuration of a setup, to which these events have led.
pub record SoundParts (parts : Parts) (setup : Setup) (events : List Event) (c : Configuration) :
    Type 0 where
  pub fits : WellFormed setup
  pub sound : Sound setup events c
  pub shows : PartsShow setup c parts

-- The rack, the requests and the places are of the same boards.
pub record AreOfOneSetup (parts : Parts) : Type 0 where
  pub requests : length parts.requests.numbers ≡ length parts.rack.specs
  pub places : length parts.places.items ≡ length parts.rack.specs

-- The answer tells whether a fact holds of the configuration that the parts show.
abbrev pub TellsWhether : Parts → (Setup → Configuration → Type 0) → Bool → Type 0
TellsWhether parts Fact answer =
    (setup : Setup) (events : List Event) (c : Configuration)
    → SoundParts parts setup events c → (IsTrue answer ↔ Fact setup c)

-- The answer tells whether an event may happen.
abbrev pub Tells : Parts → Event → Bool → Type 0
Tells parts event answer = TellsWhether parts (λ setup c. Can setup c event) answer

-- The answer tells whether an event may happen, where this is the present access of a board.
abbrev pub TellsFor : Parts → ℕ → Access → Event → Bool → Type 0
TellsFor parts board access event answer =
    (setup : Setup) (events : List Event) (c : Configuration)
    → SoundParts parts setup events c → present_access setup c.boards board ≡ Some access
    → (IsTrue answer ↔ Can setup c event)

-- Whether an answer is one of a board, and an alternative of its cell for its state on the line and
-- the event.
abbrev pub does_answer_fit : Setup → List Row → ℕ → BusEvent → ℕ → Answer → Bool
does_answer_fit setup rows line event board a =
    a.board == board
    && has_answer (answers_of (table_of setup board) (state_at rows board line) event) a.action

-- Whether each of these boards has one answer, in this order, and it is an alternative of the
-- board's cell for its state on the line and the event.
abbrev pub do_answers_fit : Setup → List Row → ℕ → BusEvent → List ℕ → List Answer → Bool
do_answers_fit setup rows line event [] [] = true
do_answers_fit setup rows line event (board ∷ boards) (a ∷ answers) =
    let rest = do_answers_fit setup rows line event boards answers in
    does_answer_fit setup rows line event board a && rest
do_answers_fit setup rows line event [] (a ∷ answers) = false
do_answers_fit setup rows line event (board ∷ boards) [] = false

-- Whether these answers to a transaction are those of the boards of a list that hold its line, but
-- for the master.
abbrev pub do_fit_among : Rack → Transaction → List ℕ → List Answer → Bool
do_fit_among rack t boards answers =
    do_answers_fit (setup_of rack) rack.rows t.line t.event
    (filter (is_other_holder rack.rows t.master t.line) boards) answers

-- Whether a contest of these numbers, at least one of them, is won by a number, and
-- settles to these lines in this many rounds.
abbrev pub does_settle : List ℕ → ℕ → ℕ → ℕ → Bool
does_settle [] number lines rounds = false
does_settle (n ∷ rest) number lines rounds =
    let numbers = n ∷ rest in
    number == highest numbers && lines == settled_lines numbers && rounds == settled_rounds numbers

-- A board is one of the machine's, and competes for the bus.
pub record Competes (parts : Parts) (board : ℕ) : Type 0 where
  pub there : IsPartOf parts board
  pub competes : IsTrue (does_compete parts.requests board)

-- A board is one of the machine's, and has raised a request.
pub record HasRaised (parts : Parts) (board : ℕ) : Type 0 where
  pub there : IsPartOf parts board
  pub raised : IsTrue (has_raised parts.requests board)
