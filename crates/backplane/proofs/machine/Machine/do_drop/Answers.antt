use Rattle.std.proofs.Common.{refl, arith}
use Rattle.std.specs.Prelude.{vec_capacity}
use Rattle.bus_model.specs.Events.{Drop}
use Rattle.backplane.specs.Machine.{configuration_after}
use Rattle.backplane.proofs.Stepping.{can-inside, part-of-user, room-for, follows, quiet-histories}
use Rattle.backplane.proofs.machine.Machine.do_drop.Goals as goal

pub give_up-requires : goal.give_up-requires
give_up-requires c =
    let m = c.self.inside in
    let e = Drop c.args.board c.args.line c.args.before in
    part-of-user m.setup m.journal.items (vec_capacity m.journal) m.parts m.histories c.self.invariant e
    (can-inside _ c.args.self.now e c.self.view_is c.requires)

pub push_reserved-requires : goal.push_reserved-requires
push_reserved-requires c =
    let m = c.self.inside in
    let e = Drop c.args.board c.args.line c.args.before in
    let room = room-for m.setup m.journal.items (vec_capacity m.journal) m.parts m.histories c.self.invariant e
    (can-inside _ c.args.self.now e c.self.view_is c.requires) in
    let long = m.journal.ok in
    omega arith

pub invariant_of-self : goal.invariant_of-self
invariant_of-self c =
    let m = c.self.inside in
    let e = Drop c.args.board c.args.line c.args.before in
    follows m.setup m.journal.items c.push_reserved.new.self.items (vec_capacity m.journal)
    (vec_capacity c.push_reserved.new.self) m.parts c.give_up.new.self m.histories m.histories e
    c.self.invariant (can-inside _ c.args.self.now e c.self.view_is c.requires) c.push_reserved.ensures.items
    c.push_reserved.ensures.capacity
    (c.give_up.ensures m.setup (configuration_after m.setup m.journal.items) c.self.invariant.parts)
    (quiet-histories m.setup m.journal.items m.histories e refl c.self.invariant.histories)
