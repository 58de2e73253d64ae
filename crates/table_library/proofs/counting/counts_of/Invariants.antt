use Rattle.std.proofs.Common.{◌≡◌, ◌≤◌, ◌*◌, take}
use Rattle.std.specs.List.{count_by, sum_by}
use Rattle.table_library.specs.Traffic.{connects, words_by, is_local, is_board, served_by, has_board, taken_by}
use Rattle.table_library.proofs.counting.counts_of.Given as goal

-- the counts so far, of which none can be large
abbrev pub invariant-loop-event : goal.invariant-loop-event
invariant-loop-event l = record {
  connects : l.connects_so_far ≡ count_by (connects l.board) (take l.event-index l.journal);
  words : l.words ≡ sum_by (words_by l.board) (take l.event-index l.journal);
  local : l.local ≡ count_by (is_local l.board) (take l.event-index l.journal);
  served : l.served ≡ count_by (served_by (is_board l.board)) (take l.event-index l.journal);
  took : l.took ≡ count_by (taken_by (has_board l.board)) (take l.event-index l.journal);
  few_connects : l.connects_so_far ≤ l.event-index;
  few_words : l.words ≤ 8 * l.event-index;
  few_local : l.local ≤ l.event-index;
  few_served : l.served ≤ l.event-index;
  few_took : l.took ≤ l.event-index;
}
