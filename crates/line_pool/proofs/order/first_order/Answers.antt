use Rattle.line_pool.proofs.Orders.{numbered_more}
use Rattle.line_pool.proofs.order.first_order.Goals as goal

pub loop-frame-preserved : goal.loop-frame-preserved
loop-frame-preserved c =
    let more =
    numbered_more c.loop-frame.order.items c.loop-frame.frame c.loop-frame.invariant.0 c.loop-frame.invariant.1 in
    rw c.in_ok-push.ensures.items more
