use Rattle.generator.proofs.Made.{is_made, uncached_made}
use Rattle.generator.proofs.tables.uncached.Goals as goal

pub returns : goal.returns
returns c = is_made c.table_of.result _ _ uncached_made c.table_of.ensures
