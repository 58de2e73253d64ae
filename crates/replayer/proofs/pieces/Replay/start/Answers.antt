use Rattle.replayer.proofs.Reading.{start_stands}
use Rattle.replayer.proofs.pieces.Replay.start.Goals as goal

pub returns-clause-stands : goal.returns-clause-stands
returns-clause-stands c = start_stands c.args.machine c.new.result c.requires c.new.ensures
