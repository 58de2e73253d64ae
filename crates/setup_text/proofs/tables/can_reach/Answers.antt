use Rattle.setup_text.proofs.Drafts.{reach_test}
use Rattle.setup_text.proofs.tables.can_reach.Goals as goal

pub returns : goal.returns
returns c = reach_test c.args.table.now c.args.state c.reaches.result c.reaches.ensures
