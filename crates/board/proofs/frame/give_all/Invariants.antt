use Rattle.std.proofs.Common.{◌≡◌, drop}
use Rattle.board.specs.Pooled.{AreOut, with_given}
use Rattle.board.proofs.frame.give_all.Given as goal

abbrev pub invariant-loop-f : goal.invariant-loop-f
invariant-loop-f l = record {
  rest : with_given l.line l.frames l.initial.pool ≡ with_given l.line (drop l.f-index l.frames) l.pool;
  out : AreOut l.pool (drop l.f-index l.frames);
}
