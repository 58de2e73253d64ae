use Rattle.std.proofs.Common.{sym, ap, ◌∙◌}
use Rattle.trace_text.specs.Reading.{more_states}
use Rattle.trace_text.proofs.Longer.{states_end, states_done, states_none, states_more}
use Rattle.trace_text.proofs.lists.add_states.Goals as goal

pub returns-then-is : goal.returns-then-is
returns-then-is c =
    sym c.loop-word.invariant.rest
    ∙ (ap (more_states c.args.master c.loop-word.states) c.in-Some.ensures
    ∙ states_done c.args.master c.loop-word.states c.in-Some.word.now c.take.new.self
    (sym c.is.ensures ∙ c.if-is.true))

pub returns-in_default-add_state : goal.returns-in_default-add_state
returns-in_default-add_state c =
    sym c.loop-word.invariant.rest
    ∙ (ap (more_states c.args.master c.loop-word.states) c.in-Some.ensures
    ∙ states_none c.args.master c.loop-word.states c.in-Some.word.now c.take.new.self
    (sym c.is.ensures ∙ c.if-is.false) c.in_default-add_state.ensures.added)

pub loop-word-preserved : goal.loop-word-preserved
loop-word-preserved c = record {
  some = c.add_state.ensures.some;
  last = c.in-Some-add_state.ensures.last;
  rest =
      sym (states_more c.args.master c.loop-word.states c.add_state.new.states c.in-Some.word.now c.take.new.self
      (sym c.is.ensures ∙ c.if-is.false) c.in-Some-add_state.ensures.added)
      ∙ (ap (more_states c.args.master c.loop-word.states) (sym c.in-Some.ensures) ∙ c.loop-word.invariant.rest);
}

pub returns : goal.returns
returns c =
    sym c.loop-word.invariant.rest
    ∙ (ap (more_states c.args.master c.loop-word.states) c.in_default.ensures
    ∙ states_end c.args.master c.loop-word.states)
