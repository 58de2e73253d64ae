use Rattle.std.proofs.Common.{◌≡◌, ◌+◌, drop}
use Rattle.arbiter.specs.Raised.{winner_from}
use Rattle.arbiter.proofs.requests.index_of.Given as goal

abbrev pub invariant-loop-i : goal.invariant-loop-i
invariant-loop-i l =
    winner_from 1 l.numbers l.marks l.number ≡ winner_from (l.i + 1) (drop l.i l.numbers) (drop l.i l.marks) l.number
