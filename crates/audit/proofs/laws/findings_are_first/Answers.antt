-- The law is proved over the definitions alone.
use Rattle.audit.proofs.Found
use Rattle.audit.proofs.laws.findings_are_first.Goals as goal

pub returns : goal.returns
returns c = Found.findings_are_first
