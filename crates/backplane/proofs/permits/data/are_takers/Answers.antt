use Rattle.std.proofs.Common.{sym, ◌∙◌}
use Rattle.backplane.proofs.Deciding.{as_well}
use Rattle.backplane.proofs.Carrying.{takers_told}
use Rattle.backplane.proofs.permits.data.are_takers.Goals as goal

pub returns : goal.returns
returns c =
    let h = c.are_boards-boards.ensures in
    let a = c.items.ensures.items in
    let b = c.items-2.ensures.items in
    as_well c.all_hold.result _ _ c.all_hold.ensures
    (takers_told c.args.a.now c.args.b.now c.is_bool-memory.result c.are_boards-boards.result c.is_bool-memory.ensures
    (λ e. sym a ∙ h.0 e ∙ b, λ e. h.1 (a ∙ e ∙ sym b)))
