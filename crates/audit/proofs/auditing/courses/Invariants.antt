use Rattle.std.proofs.Common.{◌≡◌, map, take}
use Rattle.bus_model.specs.Setup.{BoardSpec}
use Rattle.bus_model.specs.Configuration.{fresh}
use Rattle.audit.proofs.auditing.courses.Given as goal

-- the courses of the boards so far
abbrev pub invariant-loop-board : goal.invariant-loop-board
invariant-loop-board l = l.courses.items ≡ map (λ (spec : BoardSpec). fresh) (take l._board-index l.boards)
