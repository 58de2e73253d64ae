use Rattle.std.proofs.Common.{◌≡◌, map, take}
use Rattle.bus_model.specs.Setup.{BoardSpec}
use Rattle.backplane.proofs.assembling.numbers.Given as goal

abbrev pub invariant-loop-board : goal.invariant-loop-board
invariant-loop-board l = l.numbers.items ≡ map (λ (spec : BoardSpec). spec.number) (take l.board-index l.boards)
