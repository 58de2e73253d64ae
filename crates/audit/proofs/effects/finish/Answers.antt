use Rattle.std.proofs.Common.{◌^◌, sym, subst}
use Rattle.audit.specs.Parts.{SpentBelow}
use Rattle.audit.proofs.Spending.{spent-completed}
use Rattle.audit.proofs.effects.finish.Goals as goal

pub spend-requires : goal.spend-requires
spend-requires c =
    subst (SpentBelow (2 ^ 63)) (sym c.complete.ensures)
    (spent-completed (2 ^ 63) c.args.boards.now c.args.board c.requires.draws)
