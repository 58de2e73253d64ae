use Rattle.bus_model.specs.Settling.{driven}
use Rattle.std.proofs.Common.{arith}
use Rattle.arbiter.proofs.Wired.{round_more}
use Rattle.arbiter.proofs.contest.round.Goals as goal

pub loop-number-preserved : goal.loop-number-preserved
loop-number-preserved g c =
    let lines = round_more (λ number. driven c.args.lines number) c.args.numbers.now c.loop-number.number-index
    c.loop-number.next c.driven-next.result c.loop-number-test.true c.loop-number.invariant.0 c.driven-next.ensures
    in
    (lines, omega (arith, c.tick.ensures, c.loop-number.invariant.1))
