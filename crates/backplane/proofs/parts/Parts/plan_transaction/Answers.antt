use Rattle.std.proofs.Common.{◌∙◌, ap, sym, ℕ}
use Rattle.bus_signals.specs.Accesses.{line_of}
use Rattle.bus_model.specs.Configuration.{is_granted}
use Rattle.bus_model.specs.TurnParts.{bus_turn, transaction_turn}
use Rattle.backplane.proofs.parts.Parts.plan_transaction.Goals as goal

pub returns-in-None : goal.returns-in-None
returns-in-None c = λ setup events x sound s.
    c.plan_bus.ensures setup events x sound s
    ∙ ap (λ (l : ℕ). bus_turn setup x c.args.board l c.args.event c.args.outcome (is_granted x.phase c.args.board))
    (c.line.ensures ∙ ap line_of c.addr.ensures)
    ∙ ap (transaction_turn setup x c.args.board c.args.access.now c.args.event c.args.outcome)
    (sym c.in-None.is ∙ c.victim_for.ensures setup events x sound s)

pub returns-in-Some : goal.returns-in-Some
returns-in-Some c = λ setup events x sound s.
    c.plan_room.ensures setup events x sound s
    ∙ ap (transaction_turn setup x c.args.board c.args.access.now c.args.event c.args.outcome)
    (sym c.in-Some.is ∙ c.victim_for.ensures setup events x sound s)
