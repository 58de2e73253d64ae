use Rattle.std.proofs.Common.{drop, sym, ap, ◌∙◌, arith}
use Rattle.journal.specs.Boards.{state_boards}
use Rattle.trace_text.specs.Reading.{last_of}
use Rattle.trace_text.proofs.Longer.{state_above, state_last}
use Rattle.trace_text.proofs.lists.add_state.Goals as goal

pub push-requires-clause-above : goal.push-requires-clause-above
push-requires-clause-above c =
    state_above c.args.states.now c.in-Some.next.0 (omega (arith, c.place_of-place.ensures, c.requires.last))

pub returns-clause-last : goal.returns-clause-last
returns-clause-last c =
    c.place_of-place.ensures
    ∙ (sym (state_last c.args.states.now c.in-Some.next c.requires.some)
    ∙ ap (λ ss. last_of (drop 1 (state_boards ss))) (sym c.push.ensures))
