use Rattle.std.proofs.Common.{◌≡◌, ◌≤◌, ◌++◌, drop, take, length}
use Rattle.arbiter.specs.Raised.{marked_numbers}
use Rattle.arbiter.proofs.requests.gather.Given as goal

abbrev pub invariant-loop-i : goal.invariant-loop-i
invariant-loop-i l =
    (l.count ≤ l.i)
    × (marked_numbers l.numbers l.marks
    ≡ take l.count l.gathered ++ marked_numbers (drop l.i l.numbers) (drop l.i l.marks))
    × (length (take l.count l.gathered) ≡ l.count)
