use Rattle.bus_model.proofs.WorkedRuns
use Rattle.bus_model.proofs.runs.small_runs_go_no_other_way.Goals as goal

pub returns-clause-waits : goal.returns-clause-waits
returns-clause-waits c = WorkedRuns.write_waits

pub returns-clause-no_memory : goal.returns-clause-no_memory
returns-clause-no_memory c = WorkedRuns.memory_does_not_serve

pub returns-clause-no_stale_reply : goal.returns-clause-no_stale_reply
returns-clause-no_stale_reply c = WorkedRuns.no_stale_reply
