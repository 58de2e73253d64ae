use Rattle.generator.proofs.Made.{is_made, whole_class_made}
use Rattle.generator.proofs.tables.whole_class.Goals as goal

pub returns : goal.returns
returns c = is_made c.table_of.result _ _ whole_class_made c.table_of.ensures
