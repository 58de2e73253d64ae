-- What the answers of a replay say of runs.
use Rattle.std.specs.Prelude.{◌≡◌, ◌≢◌, ℕ, ◌+◌, List, [], ◌∷◌, ◌++◌, length, Some, Result, Ok, Err}
use Rattle.std.specs.List.{AllByRecursion}
use Rattle.trace_text.specs.Ranges.{InRange}
use Rattle.trace_text.specs.Spelling.{text_of_event}
use Rattle.bus_model.specs.Setup.{Setup}
use Rattle.bus_model.specs.Events.{Event}
use Rattle.bus_model.specs.Steps.{Can}
use Rattle.bus_model.specs.Runs.{Run, Complete}
use Rattle.backplane.specs.Machine.{Machine, configuration_after}
use Rattle.replayer.specs.declared.fault.ReplayFault.{ReplayFault}
use Rattle.replayer.specs.declared.fault.ReplayFault.TheVariants.{Spelling, NotARun, Unfinished}
use Rattle.replayer.specs.Lines.{Line, closed_line, event_lines}
use Rattle.replayer.specs.Replaying.{lowest_unfinished}

-- These lines are those of the events of a run of a setup, and then the rest.
pub record BeginWithRun (setup : Setup) (lines : List Line) (events : List Event) (rest : List Line)
    : Type 0 where
  pub spelled : AllByRecursion InRange events
  pub are : lines ≡ event_lines events ++ rest
  pub run : Run setup events (configuration_after setup events)

-- These lines are those of a complete run of a setup.
pub record AreCompleteRun (setup : Setup) (lines : List Line) (events : List Event) : Type 0 where
  pub run : BeginWithRun setup lines events []
  pub complete : Complete setup (configuration_after setup events)

-- The line of this number comes after the lines of a run, and is the line of no event.
pub record IsMisspelled (setup : Setup) (lines : List Line) (number : ℕ) (events : List Event)
    (line : Line) (rest : List Line) : Type 0 where
  pub run : BeginWithRun setup lines events (line ∷ rest)
  pub counted : number ≡ length events + 1
  pub unspelled : (event : Event) → InRange event → line ≢ closed_line (text_of_event event)

-- The line of this number comes after the lines of a run, and is that of an event that may not
-- happen after them.
pub record IsNoStep (setup : Setup) (lines : List Line) (number : ℕ) (events : List Event)
    (event : Event) (rest : List Line) : Type 0 where
  pub run : BeginWithRun setup lines events (closed_line (text_of_event event) ∷ rest)
  pub counted : number ≡ length events + 1
  pub spelled : InRange event
  pub no_step : Can setup (configuration_after setup events) event → ⊥

-- These lines are those of a run after which this is the lowest board that is unfinished.
pub record IsUnfinished (setup : Setup) (lines : List Line) (board : ℕ) (events : List Event) : Type
    0 where
  pub run : BeginWithRun setup lines events []
  pub lowest : lowest_unfinished (record { setup = setup; journal = events }) ≡ Some board

-- What an answer says of these lines, and of the runs of a setup.
abbrev pub Says : Setup → List Line → Result Machine ReplayFault → Type 0
Says setup lines (Ok machine) = (machine.setup ≡ setup) × AreCompleteRun setup lines machine.journal
Says setup lines (Err (Spelling number)) =
    (events : List Event) × (line : Line) × (rest : List Line)
    × IsMisspelled setup lines number events line rest
Says setup lines (Err (NotARun number)) =
    (events : List Event) × (event : Event) × (rest : List Line)
    × IsNoStep setup lines number events event rest
Says setup lines (Err (Unfinished board)) =
    (events : List Event) × IsUnfinished setup lines board events

-- An answer accepts each complete run of a setup whose lines these are.
abbrev pub Accepts : Setup → List Line → Result Machine ReplayFault → Type 0
Accepts setup lines answer =
    (events : List Event) → AreCompleteRun setup lines events
    → answer ≡ Ok (record { setup = setup; journal = events })

-- No other answer is right about these lines and the runs of a setup.
abbrev pub IsOnlyAnswer : Setup → List Line → Result Machine ReplayFault → Type 0
IsOnlyAnswer setup lines answer =
    (other : Result Machine ReplayFault) → Says setup lines other → other ≡ answer
