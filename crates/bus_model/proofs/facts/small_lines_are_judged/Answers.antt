use Rattle.bus_model.proofs.WorkedFacts
use Rattle.bus_model.proofs.facts.small_lines_are_judged.Goals as goal

pub returns-clause-owner_and_sharer : goal.returns-clause-owner_and_sharer
returns-clause-owner_and_sharer c = WorkedFacts.owner_and_sharer

pub returns-clause-no_two_owners : goal.returns-clause-no_two_owners
returns-clause-no_two_owners c = WorkedFacts.no_two_owners

pub returns-clause-no_modified_beside_owned : goal.returns-clause-no_modified_beside_owned
returns-clause-no_modified_beside_owned c = WorkedFacts.no_modified_beside_owned

pub returns-clause-no_modified_beside_shared : goal.returns-clause-no_modified_beside_shared
returns-clause-no_modified_beside_shared c = WorkedFacts.no_modified_beside_shared

pub returns-clause-no_exclusive_beside_shared : goal.returns-clause-no_exclusive_beside_shared
returns-clause-no_exclusive_beside_shared c = WorkedFacts.no_exclusive_beside_shared

pub returns-clause-no_stale_copy : goal.returns-clause-no_stale_copy
returns-clause-no_stale_copy c = WorkedFacts.no_stale_copy

pub returns-clause-no_stale_memory : goal.returns-clause-no_stale_memory
returns-clause-no_stale_memory c = WorkedFacts.no_stale_memory
