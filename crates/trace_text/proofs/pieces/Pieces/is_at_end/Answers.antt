use Rattle.trace_text.proofs.Splits.{end_is}
use Rattle.trace_text.proofs.pieces.Pieces.is_at_end.Goals as goal

pub returns : goal.returns
returns c = end_is c.self.inside.ended c.self.inside.byte c.self.inside.rest.now c.args.self.now c.self.view_is
