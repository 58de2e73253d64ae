use Rattle.std.proofs.Common.{◌≡◌, take}
use Rattle.bus_model.specs.Settling.{wired_lines}
use Rattle.arbiter.proofs.contest.whole.Given as goal

abbrev pub invariant-loop-number : goal.invariant-loop-number
invariant-loop-number l = l.lines ≡ wired_lines (take l.number-index l.numbers)
