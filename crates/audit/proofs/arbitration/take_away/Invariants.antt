use Rattle.std.proofs.Common.{◌≡◌, ◌++◌, drop, false, map, take}
use Rattle.audit.proofs.arbitration.take_away.Given as goal

abbrev pub invariant-loop-mark : goal.invariant-loop-mark
invariant-loop-mark l =
    l.served ≡ map (λ mark. false) (take l.mark-index l.initial.served) ++ drop l.mark-index l.initial.served
