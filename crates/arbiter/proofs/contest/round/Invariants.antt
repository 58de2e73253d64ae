use Rattle.std.proofs.Common.{◌≡◌, ◌+◌, map, take}
use Rattle.bus_model.specs.Settling.{wired_lines, driven}
use Rattle.arbiter.proofs.contest.round.Given as goal

abbrev pub invariant-loop-number : goal.invariant-loop-number
invariant-loop-number g l =
    (l.next ≡ wired_lines (map (λ number. driven l.lines number) (take l.number-index l.numbers)))
    × (l.steps ≡ l.initial.steps + l.number-index)
