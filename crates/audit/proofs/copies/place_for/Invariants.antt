use Rattle.std.proofs.Common.{◌≡◌, ◌+◌, drop}
use Rattle.audit.specs.Rows.{place_for}
use Rattle.audit.proofs.copies.place_for.Given as goal

abbrev pub invariant-loop-i : goal.invariant-loop-i
invariant-loop-i l = place_for l.row l.rows ≡ l.i + place_for l.row (drop l.i l.rows)
