use Rattle.std.proofs.Common.{◌∙◌, ap, subst, List}
use Rattle.std.specs.Prelude.{vec_capacity}
use Rattle.std.specs.List.{AllByRecursion}
use Rattle.class_relation.specs.Tables.{Table}
use Rattle.table_check.specs.Accepted.{InClass}
use Rattle.backplane.specs.declared.sizes.Need.{Need}
use Rattle.backplane.proofs.Opening.{stands-open}
use Rattle.backplane.proofs.assembling.assemble.Goals as goal

pub of-requires-clause-stands : goal.of-requires-clause-stands
of-requires-clause-stands c =
    stands-open c.args.setup (vec_capacity c.in-Ok-with_capacity.journal) c.in-Ok-parts.parts c.in-Ok-new.histories
    c.deref.result.now c.tables.ensures.sound
    (subst (λ (ts : List Table). AllByRecursion InClass ts) c.tables.ensures.tables c.in-Ok.ensures.accepted)
    (c.in-Ok-with_capacity.ensures.exact ∙ ap (λ (n : Need). n.events) c.need.ensures) c.in-Ok-parts.ensures
    (c.deref.ensures.value ∙ c.in-Ok-script_lengths.ensures) c.in-Ok-new.ensures
