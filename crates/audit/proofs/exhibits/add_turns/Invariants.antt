use Rattle.std.proofs.Common.{◌≡◌, ◌++◌, replicate}
use Rattle.audit.proofs.exhibits.add_turns.Given as goal

-- the turns so far
abbrev pub invariant-loop-turn : goal.invariant-loop-turn
invariant-loop-turn l = l.schedule.items ≡ l.initial.schedule.items ++ replicate l._turn l.step.board
