use Rattle.std.proofs.Common.{◌≡◌, drop}
use Rattle.audit.specs.Playing.{audit_turns}
use Rattle.audit.specs.Auditor.{Stands, audit_so_far}
use Rattle.audit.proofs.auditing.Auditor.take_turns.Given as goal

-- the turns that are left lead to the same audit
abbrev pub invariant-loop-place : goal.invariant-loop-place
invariant-loop-place l = record {
  audit :
      audit_turns (audit_so_far l.self) (drop l.place-index l.schedule)
      ≡ audit_turns (audit_so_far l.fn.self) l.schedule;
  stands : Stands l.self;
  setup : l.self.setup ≡ l.fn.self.setup;
}
