use Rattle.std.proofs.Common.{Bool}
use Rattle.backplane.proofs.Showing.{shown-ask}
use Rattle.backplane.proofs.parts.Parts.raise.Goals as goal

pub returns : goal.returns
returns c =
    λ setup x s.
    shown-ask setup x c.args.self.now c.raise.new.self c.args.board Bool.true c.requires.low c.raise.ensures s
