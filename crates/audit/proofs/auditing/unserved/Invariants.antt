use Rattle.std.proofs.Common.{◌≡◌, false, map, take}
use Rattle.bus_model.specs.Setup.{BoardSpec}
use Rattle.audit.proofs.auditing.unserved.Given as goal

-- the boards so far, none of which was served
abbrev pub invariant-loop-board : goal.invariant-loop-board
invariant-loop-board l = l.served.items ≡ map (λ (spec : BoardSpec). false) (take l._board-index l.boards)
