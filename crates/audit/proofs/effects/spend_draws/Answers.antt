use Rattle.std.proofs.Common.{◌+◌, ◌^◌, sym, subst}
use Rattle.audit.specs.Parts.{SpentBelow}
use Rattle.audit.proofs.Spending.{spent-next}
use Rattle.audit.proofs.effects.spend_draws.Goals as goal

pub spend_all-requires-clause-counts : goal.spend_all-requires-clause-counts
spend_all-requires-clause-counts c =
    subst (SpentBelow (2 ^ 62 + 1)) (sym c.spend.ensures)
    (spent-next (2 ^ 62) c.args.boards.now c.args.connected.now.master c.requires)
