use Rattle.std.proofs.Common.{subst}
use Rattle.class_relation.specs.Tables.{Table}
use Rattle.backplane.specs.Assembling.{RefusedAt}
use Rattle.backplane.proofs.assembling.accepted_at.Goals as goal

pub returns-in-Err-clause-refused : goal.returns-in-Err-clause-refused
returns-in-Err-clause-refused c =
    subst (λ (t : Table). RefusedAt t c.args.place c.fault_at.result) c.in-Ok.ensures
    (c.fault_at.ensures c.in-Ok.copy c.in-Err.ensures.refused)
