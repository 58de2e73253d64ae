use Rattle.std.proofs.Common.{◌≡◌, ◌∙◌, ap, sym, subst}
use Rattle.std.specs.Prelude.{vec_capacity}
use Rattle.bus_model.specs.Configuration.{Phase, is_connected}
use Rattle.bus_model.specs.Turns.{own_transaction}
use Rattle.bus_model.proofs.TurnInParts.{in_parts}
use Rattle.bus_model.specs.TurnParts.{turn_for, access_turn}
use Rattle.backplane.specs.Machine.{Machine, IsBoard, configuration, configuration_after}
use Rattle.backplane.specs.Plans.{planned}
use Rattle.backplane.proofs.Stepping.{part-of, stands-sound}
use Rattle.backplane.proofs.machine.Machine.plan.Goals as goal

pub plan-requires-clause-board : goal.plan-requires-clause-board
plan-requires-clause-board c =
    let m = c.self.inside in
    let board : IsBoard _ c.args.board =
    subst (λ (x : Machine). IsBoard x c.args.board) (sym c.self.view_is) c.requires.board in
    part-of m.setup m.journal.items (vec_capacity m.journal) m.parts m.histories c.self.invariant c.args.board board.low
    board.high

pub plan-requires-clause-free : goal.plan-requires-clause-free
plan-requires-clause-free c =
    ap (λ (q : Phase). is_connected q c.args.board) c.self.invariant.parts.phase
    ∙ ap (λ (x : Machine). is_connected (configuration x).phase c.args.board) c.self.view_is ∙ c.requires.free

pub returns-in-None : goal.returns-in-None
returns-in-None c =
    let now = c.args.self.now in
    ap (turn_for now.setup (configuration now) c.args.board) (sym c.in-None.is ∙ c.present.ensures)
    ∙ sym (in_parts now.setup (configuration now) c.args.board)

pub returns-in-Some : goal.returns-in-Some
returns-in-Some c =
    let now = c.args.self.now in
    let m = c.self.inside in
    let sound = stands-sound m.setup m.journal.items (vec_capacity m.journal) m.parts m.histories c.self.invariant in
    let told = c.plan.ensures m.setup m.journal.items (configuration_after m.setup m.journal.items) sound
    c.self.invariant.parts in
    subst (λ (x : Machine).
    planned x.setup (configuration x) c.args.board c.plan.result
    ≡ access_turn x.setup (configuration x) c.args.board c.in-Some.access
    (own_transaction (configuration x).phase c.args.board)) c.self.view_is told
    ∙ ap (turn_for now.setup (configuration now) c.args.board) (sym c.in-Some.is ∙ c.present.ensures)
    ∙ sym (in_parts now.setup (configuration now) c.args.board)
