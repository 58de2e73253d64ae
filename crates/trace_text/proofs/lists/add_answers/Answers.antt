use Rattle.std.proofs.Common.{sym, ap, ◌∙◌}
use Rattle.trace_text.specs.Reading.{more_answers}
use Rattle.trace_text.proofs.Longer.{answers_end, answers_none, answers_more}
use Rattle.trace_text.proofs.lists.add_answers.Goals as goal

pub returns-in_default-add_answer : goal.returns-in_default-add_answer
returns-in_default-add_answer c =
    sym c.loop-word.invariant.rest
    ∙ (ap (more_answers c.loop-word.answers) c.in-Some.ensures
    ∙ answers_none c.loop-word.answers c.in-Some.word.now c.take.new.self
    c.in_default-add_answer.ensures.added)

pub loop-word-preserved : goal.loop-word-preserved
loop-word-preserved c = record {
  last = c.in-Some-add_answer.ensures.last;
  rest =
      sym (answers_more c.loop-word.answers c.add_answer.new.answers c.in-Some.word.now c.take.new.self
      c.in-Some-add_answer.ensures.added)
      ∙ (ap (more_answers c.loop-word.answers) (sym c.in-Some.ensures) ∙ c.loop-word.invariant.rest);
}

pub returns : goal.returns
returns c =
    sym c.loop-word.invariant.rest
    ∙ (ap (more_answers c.loop-word.answers) c.in_default.ensures ∙ answers_end c.loop-word.answers)
