-- What a turn of the model does to a machine, and what the caller is told about it.
use Rattle.bus_model.specs.Turns.{Turn, Did, Waits, Finished, Why, LineHeld, BusTaken, turn, events_of_turns}
use Rattle.backplane.specs.declared.moved.Moved.{Moved}
use Rattle.backplane.specs.declared.moved.Why.{Why as Cause}
use Rattle.backplane.specs.Machine.{Machine, happened, configuration}
use Rattle.std.specs.Prelude.{ℕ, List, ◌++◌}

-- Why a board waits, as reported to the caller.
abbrev pub cause : Why → Cause
cause (LineHeld master line) = Cause.Line master line
cause (BusTaken master) = Cause.Bus master

-- The result of a turn, as reported to the caller.
abbrev pub told : Turn → Moved
told (Did event) = Moved.Did
told (Waits why) = Moved.Waits (cause why)
told Finished = Moved.Finished

-- The machine after a turn: an event is added to the journal, and a turn that does none changes
-- nothing.
abbrev pub moved : Machine → Turn → Machine
moved machine (Did event) = happened machine event
moved machine (Waits why) = machine
moved machine Finished = machine

-- The turn of a board of a machine.
abbrev pub turn_of : Machine → ℕ → Turn
turn_of machine board = turn machine.setup (configuration machine) board

-- The machine after turns of these boards, one after another.
abbrev pub after_turns : Machine → List ℕ → Machine
after_turns machine boards =
    record {
      setup = machine.setup;
      journal = machine.journal ++ events_of_turns machine.setup (configuration machine) boards;
    }

-- The number of events of a turn.
abbrev pub events_told : Moved → ℕ
events_told Moved.Did = 1
events_told (Moved.Waits why) = 0
events_told Moved.Finished = 0
