use Rattle.std.proofs.Common.{◌≡◌, ◌≤◌, drop}
use Rattle.audit.specs.Seen.{unseen, seen_after}
use Rattle.audit.proofs.harms.see.Given as goal

-- what is seen of the rest, and counts that are no more than the rows so far
abbrev pub invariant-loop-row : goal.invariant-loop-row
invariant-loop-row l = record {
  seen : seen_after l.line l.latest l.seen (drop l.row-index l.rows) ≡ seen_after l.line l.latest unseen l.rows;
  owners : l.seen.owners ≤ l.row-index;
  copies : l.seen.copies ≤ l.row-index;
}
