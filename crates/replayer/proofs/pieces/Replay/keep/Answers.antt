use Rattle.std.proofs.Common.{ap}
use Rattle.replayer.specs.Standing.{Replaying}
use Rattle.replayer.proofs.Reading.{line_kept, line_unfit}
use Rattle.replayer.proofs.pieces.Replay.keep.Goals as goal

pub returns-then-not-keep-clause-place : goal.returns-then-not-keep-clause-place
returns-then-not-keep-clause-place c =
    line_unfit c.args.self.now.place c.self.inside.machine c.self.inside.reader c.self.inside.stage
    c.misspelled-self-inside.result c.keep.new.self c.args.bytes.now c.keep.result
    (ap (λ (r : Replaying). r.place) c.self.view_is) c.requires.reading c.keep.ensures.lacks c.requires.lacks
    c.keep.ensures.fits c.if-not-keep.true c.misspelled-self-inside.ensures

pub returns-else-not-keep-clause-place : goal.returns-else-not-keep-clause-place
returns-else-not-keep-clause-place c =
    line_kept c.args.self.now.place c.self.inside.machine c.self.inside.reader c.keep.new.self c.self.inside.stage
    c.args.bytes.now c.keep.result (ap (λ (r : Replaying). r.place) c.self.view_is) c.requires.reading
    c.keep.ensures.lacks c.requires.lacks c.keep.ensures.fits c.if-not-keep.false
    (c.keep.ensures.kept c.if-not-keep.false)
