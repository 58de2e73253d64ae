use Rattle.std.proofs.Common.{refl, arith}
use Rattle.std.specs.Prelude.{vec_capacity}
use Rattle.bus_model.specs.Events.{Grant}
use Rattle.backplane.specs.Machine.{configuration_after}
use Rattle.backplane.proofs.Stepping.{stands-sound, can-inside, part-of-user, room-for, follows, quiet-histories}
use Rattle.backplane.proofs.machine.Machine.do_grant.Goals as goal

pub grant-requires : goal.grant-requires
grant-requires c =
    let m = c.self.inside in
    let e = Grant c.args.by c.args.winner c.args.lines c.args.rounds in
    part-of-user m.setup m.journal.items (vec_capacity m.journal) m.parts m.histories c.self.invariant e
    (can-inside _ c.args.self.now e c.self.view_is c.requires)

pub push_reserved-requires : goal.push_reserved-requires
push_reserved-requires c =
    let m = c.self.inside in
    let e = Grant c.args.by c.args.winner c.args.lines c.args.rounds in
    let room = room-for m.setup m.journal.items (vec_capacity m.journal) m.parts m.histories c.self.invariant e
    (can-inside _ c.args.self.now e c.self.view_is c.requires) in
    let long = m.journal.ok in
    omega arith

pub invariant_of-self : goal.invariant_of-self
invariant_of-self c =
    let m = c.self.inside in
    let e = Grant c.args.by c.args.winner c.args.lines c.args.rounds in
    follows m.setup m.journal.items c.push_reserved.new.self.items (vec_capacity m.journal)
    (vec_capacity c.push_reserved.new.self) m.parts c.grant.new.self m.histories m.histories e
    c.self.invariant (can-inside _ c.args.self.now e c.self.view_is c.requires) c.push_reserved.ensures.items
    c.push_reserved.ensures.capacity
    (c.grant.ensures m.setup (configuration_after m.setup m.journal.items) c.self.invariant.fits
    (stands-sound m.setup m.journal.items (vec_capacity m.journal) m.parts m.histories c.self.invariant).parts
    c.self.invariant.parts)
    (quiet-histories m.setup m.journal.items m.histories e refl c.self.invariant.histories)
