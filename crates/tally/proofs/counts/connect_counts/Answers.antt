use Rattle.tally.proofs.Counting.{counts_low_before, counted_step}
use Rattle.tally.proofs.counts.connect_counts.Goals as goal

pub count_event-requires : goal.count_event-requires
count_event-requires c =
    counts_low_before c.args.journal.now c.loop-event.event-index c.loop-event.counts c.requires c.loop-event.invariant

pub loop-event-preserved : goal.loop-event-preserved
loop-event-preserved c =
    counted_step c.args.journal.now c.loop-event.event-index c.event-item.result _ _ c.loop-event-test.true
    c.event-item.is c.loop-event.invariant c.count_event.ensures
