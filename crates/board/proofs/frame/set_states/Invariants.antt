use Rattle.std.proofs.Common.{◌≡◌, ◌++◌, drop, take, map}
use Rattle.board.specs.Frames.{changed}
use Rattle.board.proofs.frame.set_states.Given as goal

abbrev pub invariant-loop-f : goal.invariant-loop-f
invariant-loop-f l =
    l.frames ≡ map (changed l.line l.state) (take l.f-index l.initial.frames) ++ drop l.f-index l.initial.frames
