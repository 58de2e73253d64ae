use Rattle.generator.proofs.Made.{is_made, write_through_made}
use Rattle.generator.proofs.tables.write_through.Goals as goal

pub returns : goal.returns
returns c = is_made c.table_of.result _ _ write_through_made c.table_of.ensures
