use Rattle.board.proofs.Scans.{map-more}
use Rattle.board.specs.Frames.{changed}
use Rattle.board.proofs.frame.set_states.Goals as goal

pub loop-f-preserved : goal.loop-f-preserved
loop-f-preserved c =
    map-more (changed c.args.line c.args.state) c.args.frames.now c.loop-f.frames c.loop-f.f-index _ c.changed.result
    c.loop-f-test.true c.loop-f.invariant c.changed.ensures
