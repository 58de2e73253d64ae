use Rattle.std.proofs.Common.{◌≡◌, ◌++◌, drop, take}
use Rattle.arbiter.specs.Raised.{waiting}
use Rattle.arbiter.proofs.requests.waiting.Given as goal

abbrev pub invariant-loop-i : goal.invariant-loop-i
invariant-loop-i l = l.waiting ≡ take l.i (waiting l.raised l.served) ++ drop l.i l.raised
