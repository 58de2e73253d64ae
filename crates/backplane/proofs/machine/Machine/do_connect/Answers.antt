use Rattle.std.proofs.Common.{refl, arith}
use Rattle.std.specs.Prelude.{vec_capacity}
use Rattle.bus_model.specs.Events.{Connect}
use Rattle.backplane.specs.Machine.{configuration_after}
use Rattle.backplane.proofs.Stepping.{can-inside, part-of-user, room-for, counts-low, answers-are-boards, follows, quiet-histories}
use Rattle.backplane.proofs.machine.Machine.do_connect.Goals as goal

pub latch-requires-clause-master : goal.latch-requires-clause-master
latch-requires-clause-master c =
    let m = c.self.inside in
    let e = Connect c.args.connected in
    part-of-user m.setup m.journal.items (vec_capacity m.journal) m.parts m.histories c.self.invariant e
    (can-inside _ c.args.self.now e c.self.view_is c.requires)

pub latch-requires-clause-answers : goal.latch-requires-clause-answers
latch-requires-clause-answers c =
    let m = c.self.inside in
    let can = can-inside _ c.args.self.now (Connect c.args.connected) c.self.view_is c.requires in
    answers-are-boards m.setup (configuration_after m.setup m.journal.items) m.parts c.args.connected
    c.self.invariant.parts can.1.answers

pub latch-requires-clause-counts : goal.latch-requires-clause-counts
latch-requires-clause-counts c =
    let m = c.self.inside in
    counts-low m.setup m.journal.items (vec_capacity m.journal) m.parts m.histories c.self.invariant

pub push_reserved-requires : goal.push_reserved-requires
push_reserved-requires c =
    let m = c.self.inside in
    let e = Connect c.args.connected in
    let room = room-for m.setup m.journal.items (vec_capacity m.journal) m.parts m.histories c.self.invariant e
    (can-inside _ c.args.self.now e c.self.view_is c.requires) in
    let long = m.journal.ok in
    omega arith

pub invariant_of-self : goal.invariant_of-self
invariant_of-self c =
    let m = c.self.inside in
    let e = Connect c.args.connected in
    follows m.setup m.journal.items c.push_reserved.new.self.items (vec_capacity m.journal)
    (vec_capacity c.push_reserved.new.self) m.parts c.latch.new.self m.histories m.histories e
    c.self.invariant (can-inside _ c.args.self.now e c.self.view_is c.requires) c.push_reserved.ensures.items
    c.push_reserved.ensures.capacity
    (c.latch.ensures m.setup (configuration_after m.setup m.journal.items) c.self.invariant.parts)
    (quiet-histories m.setup m.journal.items m.histories e refl c.self.invariant.histories)
