use Rattle.coherence.proofs.Decided.{decided}
use Rattle.coherence.proofs.events_are_decided.Goals as goal

pub returns : goal.returns
returns c = decided
