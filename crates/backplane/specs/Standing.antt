-- What is true of every machine.
use Rattle.std.specs.Prelude.{◌≡◌, ℕ, List}
use Rattle.bus_model.specs.Setup.{Setup, WellFormed, AllInClass}
use Rattle.bus_model.specs.Events.{Event}
use Rattle.bus_model.specs.Runs.{Run}
use Rattle.backplane.specs.declared.parts.Parts.{Parts}
use Rattle.backplane.specs.Machine.{configuration_after}
use Rattle.backplane.specs.Needs.{needed}
use Rattle.backplane.specs.Parts.{PartsShow}
use Rattle.backplane.specs.Histories.{Histories, HistoriesKeep}

-- A machine with this journal stands where the journal is a run of an accepted setup, its parts
-- show the configuration to which the run leads, its histories keep what the run completed, and the
-- journal has the room that the setup needs.
pub record Stands (setup : Setup) (events : List Event) (capacity : ℕ) (p : Parts) (h : Histories) :
    Type 0 where
  pub fits : WellFormed setup
  pub accepted : AllInClass setup
  pub run : Run setup events (configuration_after setup events)
  pub room : capacity ≡ (needed setup).events
  pub parts : PartsShow setup (configuration_after setup events) p
  pub histories : HistoriesKeep setup events h
