use Rattle.std.proofs.Common.{◌≡◌, ◌++◌, drop, take, map}
use Rattle.audit.specs.Rows.{copy_with}
use Rattle.audit.proofs.copies.keep.Given as goal

abbrev pub invariant-loop-row : goal.invariant-loop-row
invariant-loop-row l =
    l.rows
    ≡ map (copy_with l.board l.line l.state l.words) (take l.row-index l.initial.rows) ++ drop l.row-index l.initial.rows
