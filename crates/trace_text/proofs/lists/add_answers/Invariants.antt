use Rattle.std.proofs.Common.{◌≡◌, length}
use Rattle.journal.specs.Boards.{answer_boards}
use Rattle.trace_text.specs.Reading.{last_of, more_answers}
use Rattle.trace_text.proofs.lists.add_answers.Given as goal

abbrev pub invariant-loop-word : goal.invariant-loop-word
invariant-loop-word l = record {
  last : l.last ≡ last_of (answer_boards l.answers);
  rest : more_answers l.answers l.line ≡ more_answers l.initial.answers l.initial.line;
}

abbrev pub decreases-loop-word : goal.decreases-loop-word
decreases-loop-word l = length l.line
