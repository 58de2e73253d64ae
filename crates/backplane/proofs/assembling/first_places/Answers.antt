use Rattle.std.proofs.Common.{◌∙◌, ap, List, ℕ, ◌++◌, [], ◌∷◌}
use Rattle.backplane.proofs.Listing.{zeros-more}
use Rattle.backplane.proofs.assembling.first_places.Goals as goal

pub loop-board-preserved : goal.loop-board-preserved
loop-board-preserved c =
    c.in-Ok.ensures.items ∙ ap (λ (ns : List ℕ). ns ++ 0 ∷ []) c.loop-board.invariant
    ∙ zeros-more c.args.boards.now c.loop-board._board-index c.loop-board-test.true
