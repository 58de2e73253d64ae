use Rattle.std.proofs.Common.{◌≡◌, ◌≤◌, take}
use Rattle.audit.specs.Parts.{shown}
use Rattle.audit.proofs.Granting.{numbers_among}
use Rattle.audit.proofs.grants.competing.Given as goal

-- the numbers of those of the boards so far that compete
abbrev pub invariant-loop-place : goal.invariant-loop-place
invariant-loop-place l = record {
  taken :
      take l.count l.numbers
      ≡ numbers_among l.setup (shown l.parts).arbitration (shown l.parts).boards l.place;
  few : l.count ≤ l.place;
}
