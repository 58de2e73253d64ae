use Rattle.std.proofs.Common.{◌∙◌, ap, List, ◌++◌, [], ◌∷◌}
use Rattle.bus_model.specs.Configuration.{Progress, fresh}
use Rattle.audit.proofs.MemoryLines.{same_next}
use Rattle.audit.proofs.auditing.courses.Goals as goal

pub loop-board-preserved : goal.loop-board-preserved
loop-board-preserved c =
    c.in-Ok.ensures.items ∙ ap (λ (ps : List Progress). ps ++ fresh ∷ []) c.loop-board.invariant
    ∙ same_next fresh c.args.boards.now c.loop-board._board-index c.loop-board-test.true
