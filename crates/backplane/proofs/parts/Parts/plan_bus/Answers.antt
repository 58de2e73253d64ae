use Rattle.std.proofs.Common.{◌≡◌, ◌∙◌, ap, sym, Bool, false}
use Rattle.bus_model.specs.Configuration.{Phase, is_granted}
use Rattle.bus_model.specs.TurnParts.{bus_turn}
use Rattle.backplane.proofs.parts.Parts.plan_bus.Goals as goal

pub returns : goal.returns
returns c = λ setup events x sound s.
    let free : is_granted x.phase c.args.board ≡ false =
    ap (λ (q : Phase). is_granted q c.args.board) (sym s.phase) ∙ sym c.is_granted.ensures
    ∙ c.if-is_granted.false in
    c.plan_request.ensures setup events x sound s
    ∙ ap (λ (t : Bool). bus_turn setup x c.args.board c.args.line c.args.event c.args.outcome t) (sym free)
