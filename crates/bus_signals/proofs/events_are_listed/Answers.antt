use Rattle.bus_signals.proofs.Events.{bus_listed, local_listed}
use Rattle.bus_signals.proofs.events_are_listed.Goals as goal

pub returns-clause-bus : goal.returns-clause-bus
returns-clause-bus c = bus_listed

pub returns-clause-kinds : goal.returns-clause-kinds
returns-clause-kinds c = local_listed
