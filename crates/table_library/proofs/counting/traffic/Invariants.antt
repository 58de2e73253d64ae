use Rattle.std.proofs.Common.{ℕ, ◌≡◌, ◌+◌, ◌<◌, length, get_or}
use Rattle.table_library.specs.Traffic.{counts_of, no_counts}
use Rattle.table_library.proofs.counting.traffic.Given as goal

-- the counts of the boards so far
abbrev pub invariant-loop-place : goal.invariant-loop-place
invariant-loop-place l = record {
  long : length l.boards ≡ 16;
  counted : (k : ℕ) → k < l.place → get_or l.boards k no_counts ≡ counts_of l.journal (k + 1);
}
