use Rattle.std.proofs.Common.{arith}
use Rattle.arbiter.proofs.Waiting.{waiting_all, waiting_more}
use Rattle.arbiter.proofs.requests.waiting.Goals as goal

pub loop-i-preserved : goal.loop-i-preserved
loop-i-preserved c =
    waiting_more c.args.raised.now c.args.served.now c.loop-i.i c.loop-i.waiting c.waits.result
    (omega (arith, c.loop-i-test.true, c.told-raised, c.told-served))
    (omega (arith, c.loop-i-test.true, c.told-raised, c.told-served)) c.loop-i.invariant c.waits.ensures

pub returns : goal.returns
returns c =
    waiting_all c.args.raised.now c.args.served.now c.loop-i.i c.loop-i.waiting
    (omega (arith, c.loop-i-test.false, c.told-raised, c.told-served))
    (omega (arith, c.told-raised, c.told-served)) c.loop-i.invariant
