use Rattle.table_library.proofs.Parts.{reaches_is}
use Rattle.table_library.proofs.narrowing.is_reached.Goals as goal

pub returns : goal.returns
returns c = reaches_is c.args.table.now c.args.state c.reaches.result c.reaches.ensures
