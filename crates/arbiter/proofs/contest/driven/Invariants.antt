use Rattle.std.proofs.Common.{◌≡◌, ◌≤◌}
use Rattle.bus_model.specs.Settling.{driven_below}
use Rattle.arbiter.proofs.contest.driven.Given as goal

abbrev pub decreases-loop-bit : goal.decreases-loop-bit
decreases-loop-bit l = l.bit

abbrev pub invariant-loop-bit : goal.invariant-loop-bit
invariant-loop-bit l = (l.bit ≤ 10) × (driven_below 10 l.lines l.number ≡ driven_below l.bit l.lines l.number)
