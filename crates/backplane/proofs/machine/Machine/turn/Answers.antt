use Rattle.std.proofs.Common.{◌∙◌, ap, sym}
use Rattle.std.specs.Prelude.{vec_capacity}
use Rattle.backplane.specs.Moves.{told, moved}
use Rattle.backplane.proofs.Moving.{own-connection, not-connected, known-of, connected-turn, turn-step}
use Rattle.backplane.proofs.machine.Machine.turn.Goals as goal

pub do_data-requires : goal.do_data-requires
do_data-requires c =
    let r = own-connection _ c.args.self.now c.self.inside.parts c.args.board c.self.view_is c.self.invariant.parts
    (sym c.is_connected.ensures ∙ c.if-is_connected.true) in
    (r.0, r.1)

pub returns-then-is_connected-clause-told : goal.returns-then-is_connected-clause-told
returns-then-is_connected-clause-told c =
    let m = c.self.inside in
    let r = own-connection _ c.args.self.now m.parts c.args.board c.self.view_is c.self.invariant.parts
    (sym c.is_connected.ensures ∙ c.if-is_connected.true) in
    let known = known-of m.setup m.journal.items (vec_capacity m.journal) m.parts m.histories c.args.self.now
    c.self.invariant c.self.view_is in
    ap told (sym (connected-turn c.args.self.now r.0 c.args.board known r.1 r.2))

pub returns-then-is_connected-clause-machine : goal.returns-then-is_connected-clause-machine
returns-then-is_connected-clause-machine c =
    let m = c.self.inside in
    let r = own-connection _ c.args.self.now m.parts c.args.board c.self.view_is c.self.invariant.parts
    (sym c.is_connected.ensures ∙ c.if-is_connected.true) in
    let known = known-of m.setup m.journal.items (vec_capacity m.journal) m.parts m.histories c.args.self.now
    c.self.invariant c.self.view_is in
    c.do_data.ensures r.0 r.1
    ∙ ap (moved c.args.self.now) (sym (connected-turn c.args.self.now r.0 c.args.board known r.1 r.2))

pub returns-then-is_connected-clause-step : goal.returns-then-is_connected-clause-step
returns-then-is_connected-clause-step c = λ event e.
    let m = c.self.inside in
    let known = known-of m.setup m.journal.items (vec_capacity m.journal) m.parts m.histories c.args.self.now
    c.self.invariant c.self.view_is in
    turn-step c.args.self.now c.args.board event known e

pub plan-plan-requires-clause-free : goal.plan-plan-requires-clause-free
plan-plan-requires-clause-free c =
    not-connected _ c.args.self.now c.self.inside.parts c.args.board c.self.view_is c.self.invariant.parts
    (sym c.is_connected.ensures ∙ c.if-is_connected.false)

pub go-requires : goal.go-requires
go-requires c = λ event e.
    let m = c.self.inside in
    let known = known-of m.setup m.journal.items (vec_capacity m.journal) m.parts m.histories c.args.self.now
    c.self.invariant c.self.view_is in
    turn-step c.args.self.now c.args.board event known (sym c.plan-plan.ensures ∙ e)

pub returns-clause-step : goal.returns-clause-step
returns-clause-step c = λ event e.
    let m = c.self.inside in
    let known = known-of m.setup m.journal.items (vec_capacity m.journal) m.parts m.histories c.args.self.now
    c.self.invariant c.self.view_is in
    turn-step c.args.self.now c.args.board event known e
