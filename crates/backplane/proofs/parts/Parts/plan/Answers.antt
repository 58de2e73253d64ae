use Rattle.std.proofs.Common.{◌∙◌, ap, sym}
use Rattle.bus_signals.specs.Accesses.{line_of}
use Rattle.bus_model.specs.TurnParts.{local_turn, action_turn}
use Rattle.backplane.proofs.Planning.{decide-shown, action-shown}
use Rattle.backplane.proofs.parts.Parts.plan.Goals as goal

pub returns-in-None : goal.returns-in-None
returns-in-None c = λ setup events x sound s.
    let action = c.decide-action.result in
    let decided = c.decide-action.ensures.pick
    ∙ decide-shown setup x c.args.self.now c.args.board c.line.result c.kind.result c.args.access.now s
    (c.line.ensures ∙ ap line_of c.addr.ensures) c.kind.ensures in
    c.plan_local.ensures setup x s
    ∙ ap (local_turn setup x c.args.board c.args.access.now) c.settle.ensures
    ∙ ap (action_turn setup x c.args.board c.args.access.now action.result) (sym c.in-None.is)
    ∙ action-shown setup x c.args.self.now c.args.board c.args.access.now action s c.requires.free decided

pub returns-in-Some : goal.returns-in-Some
returns-in-Some c = λ setup events x sound s.
    let action = c.decide-action.result in
    let decided = c.decide-action.ensures.pick
    ∙ decide-shown setup x c.args.self.now c.args.board c.line.result c.kind.result c.args.access.now s
    (c.line.ensures ∙ ap line_of c.addr.ensures) c.kind.ensures in
    c.plan_transaction.ensures setup events x sound s
    ∙ ap (action_turn setup x c.args.board c.args.access.now action.result) (sym c.in-Some.is)
    ∙ action-shown setup x c.args.self.now c.args.board c.args.access.now action s c.requires.free decided
