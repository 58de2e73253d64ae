-- What replaying a trace on a machine comes to.
use Rattle.std.specs.Prelude.{ℕ, ◌⊎◌, List, Option, Some, None, Result, Ok, Err, find, is_some}
use Rattle.std.proofs.Common.{inl, inr}
use Rattle.bus_model.specs.Setup.{board_places}
use Rattle.bus_model.specs.Events.{Event}
use Rattle.bus_model.specs.Configuration.{present_access}
use Rattle.backplane.specs.Machine.{Machine, configuration, happened, MayHappen}
use Rattle.replayer.specs.declared.fault.ReplayFault.{ReplayFault}
use Rattle.replayer.specs.declared.fault.ReplayFault.TheVariants.{Unfinished}
use Rattle.replayer.specs.Traces as lines
use Rattle.coherence.proofs.Decided.{decided}

-- The machine after an event that may happen, and none after one that may not.
abbrev pub stepped :
    (machine : Machine) (event : Event) → MayHappen machine event ⊎ (MayHappen machine event → ⊥)
    → Option Machine
stepped machine event (inl may) = Some (happened machine event)
stepped machine event (inr not) = None

-- The machine after an event, where the event may happen.
unfoldable pub step : Machine → Event → Option Machine
step machine event = stepped machine event (decided machine.setup (configuration machine) event)

-- The lowest board whose script is not at its end.
abbrev pub lowest_unfinished : Machine → Option ℕ
lowest_unfinished machine =
    find (λ board. is_some (present_access machine.setup (configuration machine).boards board))
    (board_places machine.setup)

-- A machine is accepted where no board is unfinished.
abbrev pub accepted : Machine → Option ℕ → Result Machine ReplayFault
accepted machine None = Ok machine
accepted machine (Some board) = Err (Unfinished board)

-- What the end of a trace comes to.
abbrev pub close : Machine → Result Machine ReplayFault
close machine = accepted machine (lowest_unfinished machine)

-- What replaying a trace on a machine comes to: the machine after its events, where each line
-- before the first `end` is the line of a step and no board is unfinished then. Else it is the
-- fault of the first line that is no step, or the lowest unfinished board.
abbrev pub replayed : Machine → List ℕ → Result Machine ReplayFault
replayed machine text = lines.replayed step close machine text
