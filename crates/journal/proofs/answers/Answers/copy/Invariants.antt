use Rattle.std.proofs.Common.{◌≡◌, take}
use Rattle.journal.proofs.answers.Answers.copy.Given as goal

abbrev pub invariant-loop-answer : goal.invariant-loop-answer
invariant-loop-answer l = l.answers ≡ take l.answer-index l.self
