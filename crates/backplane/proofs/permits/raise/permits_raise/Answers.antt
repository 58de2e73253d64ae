use Rattle.std.proofs.Common.{ap, ◌∙◌}
use Rattle.std.specs.List.{list_any}
use Rattle.std.specs.Prelude.{is_some}
use Rattle.class_relation.specs.declared.LocalAction.{LocalAction}
use Rattle.bus_model.specs.Configuration.{is_connected, is_granted}
use Rattle.backplane.proofs.Deciding.{as_well}
use Rattle.backplane.proofs.Grants.{raised-shown}
use Rattle.backplane.proofs.Shown.{cell_shown}
use Rattle.backplane.proofs.Telling.{raise_told}
use Rattle.backplane.proofs.permits.raise.permits_raise.Goals as goal

pub returns : goal.returns
returns c = λ setup events x sound present.
    let board = c.args.board in
    let shows = sound.shows in
    as_well c.all_hold.result _ _ c.all_hold.ensures
    (raise_told setup x board c.args.access.now c.raised-raised.result c.is_granted-granted.result
    c.is_connected-connected.result c.needs_bus-needs.result
    (c.raised-raised.ensures.raised ∙ raised-shown setup x c.args.parts.now board shows c.requires)
    (c.is_granted-granted.ensures ∙ ap (λ phase. is_granted phase board) shows.phase)
    (c.is_connected-connected.ensures ∙ ap (λ phase. is_connected phase board) shows.phase)
    (c.needs_bus-needs.ensures
    ∙ ap (list_any (λ (a : LocalAction). is_some a.bus))
    (c.cell_of.ensures ∙ cell_shown setup x c.args.parts.now shows board c.args.access.now))
    present)
