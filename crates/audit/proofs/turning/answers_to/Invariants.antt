use Rattle.std.proofs.Common.{◌≡◌, ◌+◌, ◌<◌, ◌≤◌, length, map}
use Rattle.std.specs.List.{AllByRecursion}
use Rattle.journal.specs.Boards.{answer_boards}
use Rattle.audit.specs.Parts.{shown}
use Rattle.audit.specs.Answering.{answer_from, holders_among}
use Rattle.audit.proofs.turning.answers_to.Given as goal

-- the answers of the boards so far, one a board, with the master left out
abbrev pub invariant-loop-place : goal.invariant-loop-place
invariant-loop-place l = record {
  answers :
      l.answers
      ≡ map (answer_from l.setup (shown l.parts) l.line l.event)
      (holders_among l.setup (shown l.parts).rows l.master l.line l.place);
  few : length l.answers ≤ l.place;
  fewer : l.master ≤ l.place → length l.answers + 1 ≤ l.place;
  below : AllByRecursion (λ board. board < l.place + 1) (answer_boards l.answers);
}
