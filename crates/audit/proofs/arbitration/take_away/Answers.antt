use Rattle.std.proofs.Common.{false, refl}
use Rattle.audit.proofs.Scans.{map-more}
use Rattle.audit.proofs.arbitration.take_away.Goals as goal

pub loop-mark-preserved : goal.loop-mark-preserved
loop-mark-preserved c =
    map-more (λ mark. false) c.args.served.now c.loop-mark.served c.loop-mark.mark-index false false
    c.loop-mark-test.true c.loop-mark.invariant refl
