use Rattle.std.proofs.Common.{◌∙◌, sym}
use Rattle.std.specs.Cmp.Lexicographic.{pointwise_decides}
use Rattle.backplane.proofs.Same.{boards_decide}
use Rattle.backplane.proofs.permits.same.are_boards.Goals as goal

pub returns : goal.returns
returns c =
    let d = pointwise_decides boards_decide c.args.a.now c.args.b.now in
    (λ h. d.0 (sym c.eq.ensures ∙ h), λ e. c.eq.ensures ∙ d.1 e)
