use Rattle.std.proofs.Common.{◌≡◌, take, filter}
use Rattle.table_library.specs.Filling.{with_locals}
use Rattle.table_library.proofs.narrowing.add_locals_if.Given as goal

-- the alternatives so far, if they are needed
abbrev pub invariant-loop-action : goal.invariant-loop-action
invariant-loop-action l =
    l.table
    ≡ with_locals l.initial.table l.state l.event (filter (λ action. l.needed) (take l.action-index l.actions))
