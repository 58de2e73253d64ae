use Rattle.std.proofs.Common.{refl, sym, subst, arith}
use Rattle.std.specs.Prelude.{vec_capacity}
use Rattle.bus_model.specs.Events.{Connect, Transaction}
use Rattle.bus_model.specs.Steps.{Can}
use Rattle.bus_model.specs.Turns.{transaction_of}
use Rattle.backplane.specs.Machine.{configuration_after}
use Rattle.backplane.proofs.Stepping.{picks-inside, picks-happened, part-of-user, room-for, counts-low, follows, quiet-histories}
use Rattle.backplane.proofs.machine.Machine.do_connect_as_picked.Goals as goal

pub connect-connected-requires-clause-master : goal.connect-connected-requires-clause-master
connect-connected-requires-clause-master c =
    let m = c.self.inside in
    let e = Connect (transaction_of m.setup (configuration_after m.setup m.journal.items) c.args.board c.args.line
    c.args.event c.args.outcome) in
    part-of-user m.setup m.journal.items (vec_capacity m.journal) m.parts m.histories c.self.invariant e
    (picks-inside _ c.args.self.now c.args.board c.args.line c.args.event c.args.outcome c.self.view_is c.requires)

pub connect-connected-requires-clause-counts : goal.connect-connected-requires-clause-counts
connect-connected-requires-clause-counts c =
    let m = c.self.inside in
    counts-low m.setup m.journal.items (vec_capacity m.journal) m.parts m.histories c.self.invariant

pub push_reserved-requires : goal.push_reserved-requires
push_reserved-requires c =
    let m = c.self.inside in
    let e = Connect (transaction_of m.setup (configuration_after m.setup m.journal.items) c.args.board c.args.line
    c.args.event c.args.outcome) in
    let can =
    picks-inside _ c.args.self.now c.args.board c.args.line c.args.event c.args.outcome c.self.view_is c.requires in
    let room = room-for m.setup m.journal.items (vec_capacity m.journal) m.parts m.histories c.self.invariant e can in
    let long = m.journal.ok in
    omega arith

pub invariant_of-self : goal.invariant_of-self
invariant_of-self c =
    let m = c.self.inside in
    let conf = configuration_after m.setup m.journal.items in
    let t = c.connect-connected.result in
    let picked = c.connect-connected.ensures.picks m.setup conf c.self.invariant.parts in
    let can : Can m.setup conf (Connect t) =
    subst (λ (x : Transaction). Can m.setup conf (Connect x)) (sym picked)
    (picks-inside _ c.args.self.now c.args.board c.args.line c.args.event c.args.outcome c.self.view_is c.requires)
    in
    follows m.setup m.journal.items c.push_reserved.new.self.items (vec_capacity m.journal)
    (vec_capacity c.push_reserved.new.self) m.parts c.connect-connected.new.self m.histories m.histories (Connect t)
    c.self.invariant can c.push_reserved.ensures.items c.push_reserved.ensures.capacity
    (c.connect-connected.ensures.shows m.setup conf c.self.invariant.parts)
    (quiet-histories m.setup m.journal.items m.histories (Connect t) refl c.self.invariant.histories)

pub returns : goal.returns
returns c =
    let m = c.self.inside in
    picks-happened c.args.self.now m.setup m.journal.items c.push_reserved.new.self.items c.args.board c.args.line
    c.args.event c.args.outcome c.connect-connected.result c.self.view_is c.push_reserved.ensures.items
    (c.connect-connected.ensures.picks m.setup (configuration_after m.setup m.journal.items) c.self.invariant.parts)
