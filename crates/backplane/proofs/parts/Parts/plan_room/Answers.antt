use Rattle.std.proofs.Common.{◌∙◌, ap, sym, Bool}
use Rattle.bus_model.specs.TurnParts.{room_turn}
use Rattle.backplane.proofs.parts.Parts.plan_room.Goals as goal

pub returns-then-not-is_clean : goal.returns-then-not-is_clean
returns-then-not-is_clean c = λ setup events x sound s.
    c.plan_bus.ensures setup events x sound s
    ∙ ap (λ (t : Bool). room_turn setup x c.args.board c.args.line c.args.state t)
    (sym (sym c.is_clean.ensures ∙ c.if-not-is_clean.true))
