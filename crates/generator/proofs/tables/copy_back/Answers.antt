use Rattle.generator.proofs.Made.{is_made, copy_back_made}
use Rattle.generator.proofs.tables.copy_back.Goals as goal

pub returns : goal.returns
returns c = is_made c.copy_back_of.result _ _ copy_back_made c.copy_back_of.ensures
