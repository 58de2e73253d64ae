use Rattle.std.proofs.Common.{◌∙◌, sym, ◌==◌}
use Rattle.std.specs.Cmp.Lexicographic.{pointwise_decides}
use denote.Enum.Bare.{same_true, true_same}
use Rattle.moesi_state.specs.contracts.State.{the_type}
use Rattle.moesi_state.specs.declared.State.{State}
use Rattle.backplane.proofs.Same.{boards_decide, pairs_decide}
use Rattle.backplane.proofs.permits.same.are_states.Goals as goal

pub returns : goal.returns
returns c =
    let d = pointwise_decides (pairs_decide (λ x y. x == y) _ boards_decide
    (λ (x y : State). (same_true the_type tt x y, true_same the_type x y))) c.args.a.now c.args.b.now in
    (λ h. d.0 (sym c.eq.ensures ∙ h), λ e. c.eq.ensures ∙ d.1 e)
