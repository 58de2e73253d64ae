use Rattle.std.proofs.Common.{◌≡◌, Some, ap, sym, ◌∙◌}
use Rattle.bus_model.specs.Configuration.{present_access}
use Rattle.audit.specs.Parts.{shown}
use Rattle.audit.proofs.TurnCases.{turn-serve}
use Rattle.audit.proofs.turning.turn.Goals as goal

pub returns-in-None : goal.returns-in-None
returns-in-None c =
    let setup = c.args.setup.now in
    let parts = c.args.parts.now in
    let present : present_access setup parts.boards.items c.args.board ≡ Some c.in-Some.access =
    ap (λ boards. present_access setup boards c.args.board) (sym c.deref.ensures.value)
    ∙ sym c.present.ensures ∙ c.in-Some.is in
    c.serve.ensures
    ∙ sym (turn-serve setup (shown parts) c.args.board c.in-Some.access present (sym c.own.ensures ∙ c.in-None.is))
