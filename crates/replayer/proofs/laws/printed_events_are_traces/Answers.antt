use Rattle.replayer.proofs.Printing.{printed}
use Rattle.replayer.proofs.laws.printed_events_are_traces.Goals as goal

pub returns : goal.returns
returns c = printed
