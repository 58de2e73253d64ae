-- The law is proved over the definitions alone.
use Rattle.coherence.proofs.Steps
use Rattle.coherence.proofs.every_run_is_fair.Goals as goal

pub returns : goal.returns
returns c = Steps.every_run_is_fair
