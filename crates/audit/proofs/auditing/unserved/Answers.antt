use Rattle.std.proofs.Common.{◌∙◌, ap, Bool, false, List, ◌++◌, [], ◌∷◌}
use Rattle.audit.proofs.MemoryLines.{same_next}
use Rattle.audit.proofs.auditing.unserved.Goals as goal

pub loop-board-preserved : goal.loop-board-preserved
loop-board-preserved c =
    c.in-Ok.ensures.items ∙ ap (λ (bs : List Bool). bs ++ false ∷ []) c.loop-board.invariant
    ∙ same_next false c.args.boards.now c.loop-board._board-index c.loop-board-test.true
