use Rattle.std.proofs.Common.{◌+◌, drop}
use Rattle.audit.specs.Auditor.{audit_so_far}
use Rattle.audit.proofs.Growing.{setup_next, turns_left, turns_next}
use Rattle.audit.proofs.auditing.Auditor.take_turns.Goals as goal

pub loop-place-preserved : goal.loop-place-preserved
loop-place-preserved c =
    let old = audit_so_far c.loop-place.self in
    let new = audit_so_far c.take_turn.new.self in
    record {
      audit =
          turns_next old new (audit_so_far c.args.self.now) _ _
          (drop (c.loop-place.place-index + 1) c.args.schedule.now) c.args.schedule.now
          c.in_ok-take_turn.ensures.audit
          (turns_left c.args.schedule.now c.loop-place.place-index _ c.loop-place-test.true)
          c.loop-place.invariant.audit;
      stands = c.in_ok-take_turn.ensures.stands;
      setup = setup_next old new _ _ c.in_ok-take_turn.ensures.audit c.loop-place.invariant.setup;
    }
