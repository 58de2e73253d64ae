use Rattle.std.proofs.Common.{◌≡◌, length}
use Rattle.replayer.specs.Traces.{fed}
use Rattle.replayer.specs.Replaying.{step}
use Rattle.replayer.proofs.pieces.Replay.read.Given as goal

abbrev pub invariant-loop-rest : goal.invariant-loop-rest
invariant-loop-rest l =
    record {
      setup : l.self.setup ≡ l.fn.self.setup;
      place : fed step l.self.place l.rest ≡ fed step l.fn.self.place l.piece;
    }

abbrev pub decreases-loop-rest : goal.decreases-loop-rest
decreases-loop-rest l = length l.rest
