use Rattle.std.proofs.Common.{◌≡◌, ◌≤◌, ◌+◌, ◌*◌, ◌++◌, length, map, drop}
use Rattle.std.specs.List.{AllByRecursion}
use Rattle.journal.specs.declared.answers.Answer.{Answer}
use Rattle.trace_text.specs.Spelling.{answer_word}
use Rattle.trace_text.specs.Ranges.{IsBoard}
use Rattle.fb_text.specs.Written.{KeepsRoom}
use Rattle.trace_text.specs.Writing.{each_behind}
use Rattle.trace_text.proofs.writing.each_answer.Given as goal

abbrev pub invariant-loop-one : goal.invariant-loop-one
invariant-loop-one l = record {
  boards : AllByRecursion (λ (a : Answer). IsBoard a.board) (drop l.one-index l.answers);
  bytes :
      l.text.bytes ++ each_behind 32 (map answer_word (drop l.one-index l.answers))
      ≡ l.initial.text.bytes ++ each_behind 32 (map answer_word l.answers);
  room : 14 * length l.answers ≤ l.text.spare + 14 * l.one-index;
  spare : l.initial.text.spare ≤ l.text.spare + 14 * l.one-index;
  kept : KeepsRoom l.initial.text l.text;
}
