-- The law is proved over the definitions alone.
use Rattle.run_text.proofs.Spelled
use Rattle.run_text.proofs.spelling.steps_are_spelled.Goals as goal

pub returns : goal.returns
returns c = Spelled.steps_are_spelled
