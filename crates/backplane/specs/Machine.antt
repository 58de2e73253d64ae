-- The machine, as contracts see it: its setup and what has happened. Its configuration is the one
-- that these two give.
use Rattle.std.specs.Prelude.{ℕ, ◌≤◌, List, [], ◌∷◌, ◌++◌, length}
use Rattle.bus_model.specs.Setup.{Setup}
use Rattle.bus_model.specs.Events.{Event}
use Rattle.bus_model.specs.Configuration.{Configuration, opening}
use Rattle.bus_model.specs.Steps.{Can}
use Rattle.bus_model.specs.Runs.{after_all}

-- A machine: its setup, and its journal of events.
pub record Machine : Type 0 where
  pub setup : Setup
  pub journal : List Event

-- The configuration after these events of a setup.
abbrev pub configuration_after : Setup → List Event → Configuration
configuration_after setup journal = after_all (opening setup) journal

-- The configuration of a machine: what its journal makes of the opening of its setup.
abbrev pub configuration : Machine → Configuration
configuration machine = configuration_after machine.setup machine.journal

-- The machine at its opening.
abbrev pub opened : Setup → Machine
opened setup = record { setup = setup; journal = [] }

-- The machine after one more event.
abbrev pub happened : Machine → Event → Machine
happened machine event = record { setup = machine.setup; journal = machine.journal ++ event ∷ [] }

-- An event may happen to a machine.
abbrev pub MayHappen : Machine → Event → Type 0
MayHappen machine event = Can machine.setup (configuration machine) event

-- A board is one of the machine's.
pub record IsBoard (machine : Machine) (board : ℕ) : Type 0 where
  pub low : 1 ≤ board
  pub high : board ≤ length machine.setup.boards
