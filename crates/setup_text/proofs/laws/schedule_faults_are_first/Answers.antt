use Rattle.setup_text.proofs.OnlyFaults
use Rattle.setup_text.proofs.laws.schedule_faults_are_first.Goals as goal

pub returns : goal.returns
returns c = OnlyFaults.schedules_first
