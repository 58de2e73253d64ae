use Rattle.std.proofs.Common.{◌≡◌, ◌+◌, ◌≤◌, length, map}
use Rattle.journal.specs.Boards.{answer_boards}
use Rattle.connect_phase.specs.Answering.{answer_from, holders_among, AllBelow}
use Rattle.connect_phase.proofs.answers_to.Given as goal

abbrev pub invariant-loop-place : goal.invariant-loop-place
invariant-loop-place l = record {
  answers : l.answers ≡ map (answer_from l.rack l.line l.event) (holders_among l.rack l.master l.line l.place);
  few : length l.answers ≤ l.place;
  fewer : l.master ≤ l.place → length l.answers + 1 ≤ l.place;
  below : AllBelow (l.place + 1) (answer_boards l.answers);
}
