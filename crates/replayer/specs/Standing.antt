-- Where a text leaves a replay.
use Rattle.std.specs.Prelude.{◌≡◌, ℕ, ◌+◌, List, [], length}
use Rattle.bus_model.specs.Setup.{Setup}
use Rattle.bus_model.specs.Events.{Event}
use Rattle.backplane.specs.Machine.{Machine, opened}
use Rattle.replayer.specs.declared.fault.ReplayFault.TheVariants.{Spelling}
use Rattle.replayer.specs.declared.reader.Found.{Found}
use Rattle.replayer.specs.declared.reader.Found.TheVariants as found
use Rattle.replayer.specs.Traces.{Place, reading, ended, refused, by_step, left_by}
use Rattle.replayer.specs.declared.stage.Stage.{Stage}
use Rattle.replayer.specs.declared.stage.Stage.TheVariants.{Reading, Ended, Refused}
use Rattle.replayer.specs.Replaying.{step}

-- A replay: the setup of its machine, and its place: reading a line of some number with the bytes
-- of it so far, after the line `end`, or at a fault.
pub record Replaying : Type 0 where
  pub setup : Setup
  pub place : Place Machine

-- A replay stands for a text where its place is the one in which the text leaves a machine at its
-- opening.
abbrev pub StandsFor : Replaying → List ℕ → Type 0
StandsFor replay text = replay.place ≡ left_by step (opened replay.setup) text

-- The number of the line that is read next: one line was read for each event.
abbrev pub number_of_next : Machine → ℕ
number_of_next machine = length machine.journal + 1

-- The place of a machine and of the line that is unfinished.
abbrev pub place_of : Machine → List ℕ → Stage → Place Machine
place_of machine unfinished Reading = reading machine (number_of_next machine) unfinished
place_of machine unfinished Ended = ended machine
place_of machine unfinished (Refused fault) = refused fault

-- More lines are read.
abbrev pub IsReading : Place Machine → Type 0
IsReading (reading machine number unfinished) = Unit {0}
IsReading (ended machine) = ⊥
IsReading (refused fault) = ⊥

-- The place after the line of an event of this number.
abbrev pub at_event : Machine → ℕ → Event → Place Machine
at_event machine number event =
    by_step refused (λ next. reading next (number + 1) []) number (step machine event)

-- The place after a line of this number, as it was found.
abbrev pub at_found : Machine → ℕ → Found → Place Machine
at_found machine number found.End = ended machine
at_found machine number found.Misspelled = refused (Spelling number)
at_found machine number (found.Event event) = at_event machine number event
