use Rattle.std.proofs.Common.{◌≡◌, ◌≤◌, ◌*◌, take}
use Rattle.std.specs.List.{sum_by}
use Rattle.tally.specs.Tally.{reply_in}
use Rattle.tally.proofs.counts.replies_sum.Given as goal

-- the sum so far, which is below one word for each event
abbrev pub invariant-loop-event : goal.invariant-loop-event
invariant-loop-event l = record {
  sum : l.sum ≡ sum_by reply_in (take l.event-index l.journal);
  low : l.sum ≤ 4294967295 * l.event-index;
}
