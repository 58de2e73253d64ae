use Rattle.std.proofs.Common.{◌≡◌, map, take}
use Rattle.bus_model.specs.Setup.{BoardSpec}
use Rattle.backplane.proofs.assembling.first_places.Given as goal

abbrev pub invariant-loop-board : goal.invariant-loop-board
invariant-loop-board l = l.places.items ≡ map (λ (spec : BoardSpec). 0) (take l._board-index l.boards)
