use Rattle.std.proofs.Common.{◌≡◌, take, filter}
use Rattle.table_library.specs.Fitting.{fits_local}
use Rattle.table_library.specs.Filling.{with_locals}
use Rattle.table_library.proofs.narrowing.add_fitting_locals.Given as goal

-- what fits so far
abbrev pub invariant-loop-action : goal.invariant-loop-action
invariant-loop-action l =
    l.table
    ≡ with_locals l.initial.table l.state l.event
    (filter (fits_local l.set l.state l.event) (take l.action-index l.actions))
