use Rattle.std.proofs.Common.{◌≡◌, length, take}
use Rattle.std.specs.Prelude.{Vec, sum_by}
use Rattle.std.specs.declared.alloc.Global.{Global}
use Rattle.bus_signals.specs.declared.Access.{Access}
use Rattle.setup.proofs.parts.Setup.accesses.Given as goal

-- the accesses of the scripts so far
abbrev pub invariant-loop-script : goal.invariant-loop-script
invariant-loop-script l =
    l.accesses ≡ sum_by (λ (script : Vec Access Global). length script.items) (take l.script-index l.script-items)
