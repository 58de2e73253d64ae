use Rattle.std.proofs.Common.{◌<◌, ◌≤◌, length, subst}
use Rattle.bus_model.specs.Setup.{board_places}
use Rattle.audit.specs.Auditor.{audit_so_far}
use Rattle.audit.proofs.Growing.{no_places_left, places_left, setup_next, turns_next, turns_over}
use Rattle.audit.proofs.auditing.Auditor.round.Goals as goal

pub loop-place-preserved : goal.loop-place-preserved
loop-place-preserved c =
    let old = audit_so_far c.loop-place.self in
    let new = audit_so_far c.take_turn.new.self in
    record {
      audit =
          turns_next old new (audit_so_far c.args.self.now) _ _ _ (board_places c.args.self.now.setup)
          c.in_ok-take_turn.ensures.audit
          (places_left c.args.self.now.setup.boards 1 c.loop-place.place
          (subst (λ bs. c.loop-place.place < length bs) c.boards.ensures.boards c.loop-place-test.true))
          c.loop-place.invariant.audit;
      stands = c.in_ok-take_turn.ensures.stands;
      setup = setup_next old new _ _ c.in_ok-take_turn.ensures.audit c.loop-place.invariant.setup;
    }

pub returns-clause-audit : goal.returns-clause-audit
returns-clause-audit c =
    turns_over (audit_so_far c.loop-place.self) (audit_so_far c.args.self.now) _ (board_places c.args.self.now.setup)
    (no_places_left c.args.self.now.setup.boards 1 c.loop-place.place
    (subst (λ bs. length bs ≤ c.loop-place.place) c.boards.ensures.boards c.loop-place-test.false))
    c.loop-place.invariant.audit
