use Rattle.std.proofs.Common.{◌≡◌, ◌++◌, drop, take, map}
use Rattle.audit.specs.Rows.{answered_row}
use Rattle.audit.proofs.effects.answer_each.Given as goal

abbrev pub invariant-loop-row : goal.invariant-loop-row
invariant-loop-row l =
    l.rows
    ≡ map (answered_row l.carried l.own) (take l.row-index l.initial.rows) ++ drop l.row-index l.initial.rows
