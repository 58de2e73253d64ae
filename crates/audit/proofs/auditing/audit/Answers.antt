use Rattle.std.proofs.Common.{◌∙◌, ap, subst}
use Rattle.bus_model.specs.Setup.{WellFormed}
use Rattle.audit.specs.Auditor.{audit_so_far}
use Rattle.audit.specs.First.{Audit}
use Rattle.audit.specs.Parts.{shown}
use Rattle.audit.proofs.Agreement.{accepted_audit}
use Rattle.audit.proofs.Standing.{audit_comes, comes_holds}
use Rattle.audit.proofs.auditing.audit.Goals as goal

pub of-requires : goal.of-requires
of-requires c =
    let done = c.finish.new.self in
    comes_holds c.args.setup c.args.schedule.now done.journal.items (shown done.parts) done.flat done.finding done.setup
    c.in_ok-finish.ensures.stands
    (audit_comes c.args.setup c.args.schedule.now (audit_so_far c.in_ok-auditor.auditor)
    (audit_so_far c.take_turns.new.self) (audit_so_far done) c.in_ok-auditor.ensures.audit
    c.in_ok-take_turns.ensures.audit c.in_ok-finish.ensures.audit)

pub returns-clause-audited : goal.returns-clause-audited
returns-clause-audited c =
    c.of.ensures
    ∙ audit_comes c.args.setup c.args.schedule.now (audit_so_far c.in_ok-auditor.auditor)
    (audit_so_far c.take_turns.new.self) (audit_so_far c.finish.new.self) c.in_ok-auditor.ensures.audit
    c.in_ok-take_turns.ensures.audit c.in_ok-finish.ensures.audit

pub returns-clause-agrees : goal.returns-clause-agrees
returns-clause-agrees c accepted =
    c.of.ensures
    ∙ audit_comes c.args.setup c.args.schedule.now (audit_so_far c.in_ok-auditor.auditor)
    (audit_so_far c.take_turns.new.self) (audit_so_far c.finish.new.self) c.in_ok-auditor.ensures.audit
    c.in_ok-take_turns.ensures.audit c.in_ok-finish.ensures.audit
    ∙ accepted_audit c.args.setup
    (subst WellFormed (ap (λ (a : Audit). a.setup) c.in_ok-auditor.ensures.audit) c.in_ok-auditor.ensures.stands.well)
    accepted c.args.schedule.now
