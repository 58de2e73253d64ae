use Rattle.std.proofs.Common.{◌≡◌, drop}
use Rattle.bus_model.specs.Setup.{board_places}
use Rattle.audit.specs.Playing.{audit_turns}
use Rattle.audit.specs.Auditor.{Stands, audit_so_far}
use Rattle.audit.proofs.auditing.Auditor.round.Given as goal

-- the turns that are left of the round lead to the same audit
abbrev pub invariant-loop-place : goal.invariant-loop-place
invariant-loop-place l = record {
  audit :
      audit_turns (audit_so_far l.self) (drop l.place (board_places l.fn.self.setup))
      ≡ audit_turns (audit_so_far l.fn.self) (board_places l.fn.self.setup);
  stands : Stands l.self;
  setup : l.self.setup ≡ l.fn.self.setup;
}
