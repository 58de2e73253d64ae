use Rattle.std.proofs.Common.{sym, ◌∙◌}
use Rattle.backplane.proofs.Deciding.{as_well}
use Rattle.backplane.proofs.Same.{boards_decide}
use Rattle.backplane.proofs.Carrying.{carried_told}
use Rattle.backplane.proofs.permits.data.is_carried.Goals as goal

pub returns : goal.returns
returns c =
    let h = c.are_states-states.ensures in
    let a = c.items.ensures.items in
    let b = c.items-2.ensures.items in
    as_well c.all_hold.result _ _ c.all_hold.ensures
    (carried_told c.args.a.now c.args.b.now c.is_board-master.result c.is_event-event.result c.is_line-line.result
    c.is_source-source.result c.are_takers-takers.result c.are_states-states.result c.is_done-done.result
    (as_well c.is_board-master.result _ _ c.is_board-master.ensures
    (boards_decide c.args.a.now.master c.args.b.now.master))
    c.is_event-event.ensures c.is_line-line.ensures c.is_source-source.ensures c.are_takers-takers.ensures
    (λ e. sym a ∙ h.0 e ∙ b, λ e. h.1 (a ∙ e ∙ sym b))
    c.is_done-done.ensures)
