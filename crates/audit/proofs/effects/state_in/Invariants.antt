use Rattle.std.proofs.Common.{◌≡◌, drop, ℕ}
use Rattle.std.specs.Prelude.{find, ◌==◌}
use Rattle.moesi_state.specs.declared.State.{State}
use Rattle.audit.proofs.effects.state_in.Given as goal

abbrev pub invariant-loop-given : goal.invariant-loop-given
invariant-loop-given l =
    find (λ (s : ℕ × State). s.0 == l.fn.board) l.states
    ≡ find (λ (s : ℕ × State). s.0 == l.fn.board) (drop l.given-index l.states)
