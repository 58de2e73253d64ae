use Rattle.std.proofs.Common.{◌≡◌, take}
use Rattle.tally.specs.Tally.{connect_counts}
use Rattle.tally.proofs.counts.connect_counts.Given as goal

-- the counts so far
abbrev pub invariant-loop-event : goal.invariant-loop-event
invariant-loop-event l = l.counts ≡ connect_counts (take l.event-index l.journal)
