use Rattle.backplane.proofs.Reading.{DoneBefore}
use Rattle.backplane.proofs.machine.Machine.unfinished.Given as goal

abbrev pub invariant-loop-place : goal.invariant-loop-place
invariant-loop-place l = DoneBefore l.self l.place
