use Rattle.std.proofs.Common.{refl}
use Rattle.backplane.specs.declared.phase.Phase.TheVariants.{Granted}
use Rattle.backplane.proofs.Showing.{shown-grant}
use Rattle.backplane.proofs.parts.Parts.grant.Goals as goal

pub returns : goal.returns
returns c = λ setup x well fit s.
    shown-grant setup x c.args.self.now c.give.new.self (Granted c.args.winner) c.args.winner c.requires.low well fit
    c.give.ensures refl s
