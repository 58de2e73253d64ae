use Rattle.std.proofs.Common.{◌≡◌, ◌≢◌, ℕ, suc, ◌+◌, ◌-◌, ◌*◌, ◌<◌, ◌≤◌, length}
use Rattle.bus_model.specs.Settling.{lines_after}
use Rattle.arbiter.proofs.contest.settle.Given as goal

abbrev pub invariant-loop-lines : goal.invariant-loop-lines
invariant-loop-lines g l =
    (l.lines ≡ lines_after l.numbers l.rounds)
    × (l.rounds ≤ 9)
    × ((k : ℕ) → k < l.rounds → lines_after l.numbers (suc k) ≢ lines_after l.numbers k)
    × (l.steps ≡ l.initial.steps + l.rounds * length l.numbers)

abbrev pub decreases-loop-lines : goal.decreases-loop-lines
decreases-loop-lines g l = 10 - l.rounds
