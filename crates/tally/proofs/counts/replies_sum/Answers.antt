use Rattle.std.proofs.Common.{ap, ◌∙◌}
use Rattle.std.specs.List.{sum_by}
use Rattle.std.proofs.lemmas.List.{take_all}
use Rattle.tally.specs.Tally.{reply_in}
use Rattle.tally.proofs.Counting.{sum_of_events}
use Rattle.tally.proofs.counts.replies_sum.Goals as goal

pub returns : goal.returns
returns c =
    let journal = c.args.journal.now in
    c.loop-event.invariant.sum
    ∙ ap (sum_by reply_in) (take_all c.loop-event.event-index journal c.loop-event-test.false)
    ∙ sum_of_events journal
