use Rattle.std.proofs.Common.{◌≡◌}
use Rattle.table_library.specs.Kept.{left_after}
use Rattle.table_library.proofs.fitting.states_left.Given as goal

-- the states that are left so far
abbrev pub invariant-loop-round : goal.invariant-loop-round
invariant-loop-round l = l.left ≡ left_after l.table l._round
