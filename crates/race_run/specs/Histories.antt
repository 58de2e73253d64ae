-- The history of a machine that boards move in turns: its events, each with the board that made it.
use Rattle.std.specs.Prelude.{◌≡◌, ℕ, ◌≤◌, List, [], ◌∷◌, ◌++◌, None, map, length}
use Rattle.bus_model.specs.Setup.{Setup}
use Rattle.bus_model.specs.Events.{Event, Local, Drop, Raise, Grant, Connect, DataPhase}
use Rattle.bus_model.specs.Configuration.{Configuration, present_access}
use Rattle.bus_model.specs.Steps.{Step}
use Rattle.bus_model.specs.Soundness.{Sound}
use Rattle.bus_model.specs.Turns.{Turn, Did, Waits, Finished, turn}
use Rattle.backplane.specs.declared.moved.Moved.{Moved}
use Rattle.backplane.specs.Machine.{configuration_after}
use Rattle.backplane.specs.Moves.{told}

-- The board that made an event: the one whose turn it was. A grant is made by the board that gave
-- the bus, and not by the winner.
abbrev pub maker : Event → ℕ
maker (Local board before after done) = board
maker (Drop board line before) = board
maker (Raise board) = board
maker (Grant by winner lines rounds) = by
maker (Connect t) = t.master
maker (DataPhase e) = e.master

-- The events, each with the board that made it.
abbrev pub made : List Event → List (ℕ × Event)
made events = map (λ (e : Event). (maker e, e)) events

-- The events of a history.
abbrev pub events_of : List (ℕ × Event) → List Event
events_of history = map (λ (entry : ℕ × Event). entry.1) history

-- The configuration that a setup and a history give.
abbrev pub reached : Setup → List (ℕ × Event) → Configuration
reached setup history = configuration_after setup (events_of history)

-- An event is a step after these events of a setup: it leads from the configuration that they give
-- to the one that they and it give, and the configuration that they give is sound.
pub record IsStepAfter (setup : Setup) (events : List Event) (event : Event) : Type 0 where
  pub step :
      Step setup (configuration_after setup events) event
      (configuration_after setup (events ++ event ∷ []))
  pub sound : Sound setup events (configuration_after setup events)

-- Each of these events is a step after those before it.
pub record AreSteps (setup : Setup) (events : List Event) : Type 0 where
  pub each :
      (earlier later : List Event) (event : Event) → events ≡ earlier ++ event ∷ later
      → IsStepAfter setup earlier event

-- A history of a setup: each entry is an event with the board that made it, and is a step after
-- those before it.
pub record IsHistory (setup : Setup) (history : List (ℕ × Event)) : Type 0 where
  pub boards : history ≡ made (events_of history)
  pub steps : AreSteps setup (events_of history)

-- A number is the place of a board of a setup, which has at most 16 boards.
pub record IsPlace (setup : Setup) (who : ℕ) : Type 0 where
  pub low : 1 ≤ who
  pub high : who ≤ length setup.boards
  pub few : length setup.boards ≤ 16

-- The turn of a board after a history.
abbrev pub turn_after : Setup → List (ℕ × Event) → ℕ → Turn
turn_after setup history who = turn setup (reached setup history) who

-- The history after a turn of a board: an event is added, made by this board, and a turn that does
-- none adds nothing.
abbrev pub history_after : List (ℕ × Event) → ℕ → Turn → List (ℕ × Event)
history_after history who (Did event) = history ++ (who, event) ∷ []
history_after history who (Waits why) = history
history_after history who Finished = history

-- A turn of a board leads from one history to another. It is the turn of the model, and what it
-- does is a step from the configuration before it, which is sound. The history that it leaves is
-- one of the setup.
pub record IsTurn (setup : Setup) (before : List (ℕ × Event)) (who : ℕ) (answer : Moved)
    (after : List (ℕ × Event)) : Type 0 where
  pub told : answer ≡ told (turn_after setup before who)
  pub history : after ≡ history_after before who (turn_after setup before who)
  pub step :
      (event : Event) → turn_after setup before who ≡ Did event
      → Step setup (reached setup before) event (reached setup after)
  pub sound : Sound setup (events_of before) (reached setup before)
  pub past : IsHistory setup after

-- The script of a board is at its end after a history.
abbrev pub IsAtEnd : Setup → List (ℕ × Event) → ℕ → Type 0
IsAtEnd setup history who = present_access setup (reached setup history).boards who ≡ None
