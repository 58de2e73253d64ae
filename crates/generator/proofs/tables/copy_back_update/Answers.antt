use Rattle.generator.proofs.Made.{is_made, copy_back_update_made}
use Rattle.generator.proofs.tables.copy_back_update.Goals as goal

pub returns : goal.returns
returns c = is_made c.copy_back_of.result _ _ copy_back_update_made c.copy_back_of.ensures
