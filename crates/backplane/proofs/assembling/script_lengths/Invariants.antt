use Rattle.std.proofs.Common.{◌≡◌, take}
use Rattle.backplane.specs.Assembling.{script_lengths}
use Rattle.backplane.proofs.assembling.script_lengths.Given as goal

abbrev pub invariant-loop-place : goal.invariant-loop-place
invariant-loop-place l = l.lengths.items ≡ take l.place (script_lengths l.setup)
