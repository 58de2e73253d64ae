-- The law is proved over the definitions alone.
use Rattle.audit.proofs.Found
use Rattle.audit.proofs.laws.nothing_found_is_sound.Goals as goal

pub returns : goal.returns
returns c = Found.nothing_found_is_sound
