use Rattle.std.proofs.Common.{ap, ◌∙◌}
use Rattle.class_relation.specs.Tables.{Table}
use Rattle.generator.specs.Tables.{with_local_rows, local_rows_fit}
use Rattle.generator.proofs.tables.copy_back_of.Goals as goal

pub add_locals-requires : goal.add_locals-requires
add_locals-requires c = ap (λ (t : Table). local_rows_fit t c.args.writes.now) c.in_ok-table.ensures ∙ c.requires.writes

pub returns : goal.returns
returns c = c.in_ok-add_locals.ensures ∙ ap (λ (t : Table). with_local_rows t c.args.writes.now) c.in_ok-table.ensures
