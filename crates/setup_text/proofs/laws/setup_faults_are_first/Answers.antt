use Rattle.setup_text.proofs.OnlyFaults
use Rattle.setup_text.proofs.laws.setup_faults_are_first.Goals as goal

pub returns : goal.returns
returns c = OnlyFaults.setups_first
