use Rattle.std.proofs.Common.{◌≡◌, ◌≤◌, take}
use Rattle.std.specs.List.{count_by}
use Rattle.table_library.specs.Traffic.{is_memory, served_by, has_memory, taken_by}
use Rattle.table_library.proofs.counting.counts_of_memory.Given as goal

-- the counts so far, of which none can be large
abbrev pub invariant-loop-event : goal.invariant-loop-event
invariant-loop-event l = record {
  served : l.served ≡ count_by (served_by is_memory) (take l.event-index l.journal);
  took : l.took ≡ count_by (taken_by has_memory) (take l.event-index l.journal);
  few_served : l.served ≤ l.event-index;
  few_took : l.took ≤ l.event-index;
}
