-- The law is proved over the definitions alone.
use Rattle.audit_text.proofs.EachSpelled
use Rattle.audit_text.proofs.laws.audits_are_spelled.Goals as goal

pub returns : goal.returns
returns c = EachSpelled.audits_are_spelled
