use Rattle.bus_model.proofs.WorkedFacts
use Rattle.bus_model.proofs.facts.runs_are_judged.Goals as goal

pub returns-clause-coherent : goal.returns-clause-coherent
returns-clause-coherent c = WorkedFacts.coherent

pub returns-clause-not_without_the_owner : goal.returns-clause-not_without_the_owner
returns-clause-not_without_the_owner c = WorkedFacts.not_without_the_owner

pub returns-clause-entries : goal.returns-clause-entries
returns-clause-entries c = WorkedFacts.intervention_has_its_entries

pub returns-clause-entries_without_the_bus : goal.returns-clause-entries_without_the_bus
returns-clause-entries_without_the_bus c = WorkedFacts.quiet_read_has_its_entries

pub returns-clause-complete : goal.returns-clause-complete
returns-clause-complete c = WorkedFacts.complete

pub returns-clause-not_halfway : goal.returns-clause-not_halfway
returns-clause-not_halfway c = WorkedFacts.not_halfway

pub returns-clause-not_with_the_bus_taken : goal.returns-clause-not_with_the_bus_taken
returns-clause-not_with_the_bus_taken c = WorkedFacts.not_with_the_bus_taken

pub returns-clause-legal : goal.returns-clause-legal
returns-clause-legal c = WorkedFacts.intervention_is_legal
