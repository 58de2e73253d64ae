use Rattle.arbiter.proofs.Wired.{wired_more}
use Rattle.arbiter.proofs.contest.whole.Goals as goal

pub loop-number-preserved : goal.loop-number-preserved
loop-number-preserved c =
    wired_more c.args.numbers.now c.loop-number.number-index c.loop-number.lines c.loop-number-test.true
    c.loop-number.invariant
