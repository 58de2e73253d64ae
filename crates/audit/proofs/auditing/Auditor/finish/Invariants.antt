use Rattle.std.proofs.Common.{◌≡◌, ◌*◌}
use Rattle.bus_model.specs.Places.{repeated}
use Rattle.bus_model.specs.Setup.{access_count, board_places}
use Rattle.audit.specs.Playing.{audit_turns}
use Rattle.audit.specs.Auditor.{Stands, audit_so_far}
use Rattle.audit.proofs.auditing.Auditor.finish.Given as goal

-- the rounds that are left lead to the same audit
abbrev pub invariant-loop-rounds : goal.invariant-loop-rounds
invariant-loop-rounds l = record {
  audit :
      audit_turns (audit_so_far l.self) (repeated l.rounds (board_places l.fn.self.setup))
      ≡ audit_turns (audit_so_far l.fn.self)
      (repeated (8 * access_count l.fn.self.setup) (board_places l.fn.self.setup));
  stands : Stands l.self;
  setup : l.self.setup ≡ l.fn.self.setup;
}

abbrev pub decreases-loop-rounds : goal.decreases-loop-rounds
decreases-loop-rounds l = l.rounds
