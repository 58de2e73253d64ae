use Rattle.std.proofs.Common.{false, [], ap, ◌∙◌}
use Rattle.bus_model.specs.Configuration.{is_granted}
use Rattle.bus_model.specs.Setup.{Setup}
use Rattle.backplane.specs.Permits.{do_answers_fit}
use Rattle.bus_model.specs.Connecting.{other_holders}
use Rattle.backplane.proofs.Connecting.{connect_told}
use Rattle.backplane.proofs.Deciding.{as_well}
use Rattle.backplane.proofs.permits.connect.permits_connect.Goals as goal

pub returns : goal.returns
returns c = λ setup events x sound present.
    let t = c.args.connected.now in
    let parts = c.args.parts.now in
    let shows = sound.shows in
    as_well c.all_hold.result _ _ c.all_hold.ensures
    (connect_told setup x t c.args.access.now c.is_granted-granted.result c.has_purpose-purpose.result
    c.do_answers_fit-answers.result
    (c.is_granted-granted.ensures ∙ ap (λ phase. is_granted phase t.master) shows.phase)
    (c.has_purpose-purpose.ensures setup events x sound)
    (c.do_answers_fit-answers.ensures
    ∙ (λ i.
    let s : Setup =
    record { memory = []; fair = false; tables = shows.tables i; boards = shows.boards i; scripts = [] } in
    do_answers_fit s (shows.rack.rows i) t.line t.event
    (other_holders s (shows.rack.rows i) t.master t.line) t.answers))
    present)
