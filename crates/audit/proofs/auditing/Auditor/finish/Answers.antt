use Rattle.std.proofs.Common.{◌∙◌, ◌*◌, ◌-◌, ap, arith, sym}
use Rattle.bus_model.specs.Places.{repeated}
use Rattle.bus_model.specs.Setup.{access_count, board_places}
use Rattle.audit.specs.Playing.{audit_turns}
use Rattle.audit.specs.Auditor.{audit_so_far}
use Rattle.audit.proofs.Growing.{rounds_next, setup_of_round, still_over}
use Rattle.audit.proofs.auditing.Auditor.finish.Goals as goal

pub returns-then-len-made-clause-audit : goal.returns-then-len-made-clause-audit
returns-then-len-made-clause-audit c =
    let setup = c.args.self.now.setup in
    still_over (audit_so_far c.loop-rounds.self) (audit_so_far c.round.new.self) (audit_so_far c.args.self.now)
    (board_places setup) (repeated (8 * access_count setup) (board_places setup)) c.loop-rounds.rounds
    (c.in_ok-round.ensures.audit
    ∙ ap (λ s. audit_turns (audit_so_far c.loop-rounds.self) (board_places s)) c.loop-rounds.invariant.setup)
    (sym c.round.new.self.journal.ok.0 ∙ sym c.len.ensures ∙ c.if-len-made.true ∙ c.len-made.ensures
    ∙ c.loop-rounds.self.journal.ok.0)
    c.loop-rounds.invariant.audit

pub loop-rounds-preserved : goal.loop-rounds-preserved
loop-rounds-preserved c =
    let setup = c.args.self.now.setup in
    let old = audit_so_far c.loop-rounds.self in
    let new = audit_so_far c.round.new.self in
    let turned =
    c.in_ok-round.ensures.audit ∙ ap (λ s. audit_turns old (board_places s)) c.loop-rounds.invariant.setup in
    record {
      audit =
          rounds_next old new (audit_so_far c.args.self.now) (board_places setup)
          (repeated (8 * access_count setup) (board_places setup)) c.loop-rounds.rounds (c.loop-rounds.rounds - 1) turned
          (omega (arith, c.loop-rounds-test.true)) c.loop-rounds.invariant.audit;
      stands = c.in_ok-round.ensures.stands;
      setup = setup_of_round old new (board_places setup) setup turned c.loop-rounds.invariant.setup;
    }
