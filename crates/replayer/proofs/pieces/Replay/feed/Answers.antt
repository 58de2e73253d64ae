use Rattle.std.proofs.Common.{sym, ap, ◌∙◌, ◌++◌}
use Rattle.bus_model.specs.Setup.{Setup}
use Rattle.backplane.specs.Machine.{Machine, opened}
use Rattle.replayer.specs.Traces.{Place, fed, left_by}
use Rattle.replayer.proofs.Fed.{left_joined}
use Rattle.replayer.specs.Replaying.{step}
use Rattle.replayer.proofs.pieces.Replay.feed.Goals as goal

pub returns-clause-stands : goal.returns-clause-stands
returns-clause-stands c = λ text stands.
    c.read.ensures.place
    ∙ (ap (λ (p : Place Machine). fed step p c.args.piece.now) stands
    ∙ (sym (left_joined step (opened c.args.self.now.setup) text c.args.piece.now)
    ∙ ap (λ (s : Setup). left_by step (opened s) (text ++ c.args.piece.now)) (sym c.read.ensures.setup)))
