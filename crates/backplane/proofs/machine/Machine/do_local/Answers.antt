use Rattle.std.proofs.Common.{sym, subst, arith, [], ◌∷◌, ◌++◌}
use Rattle.std.specs.Prelude.{vec_capacity}
use Rattle.bus_model.specs.Events.{Local}
use Rattle.backplane.specs.Machine.{configuration_after}
use Rattle.backplane.specs.Histories.{Histories, HistoriesKeep}
use Rattle.backplane.proofs.Stepping.{can-inside, part-of-user, room-for, counts-low, stands-sound, follows, part-still}
use Rattle.backplane.proofs.Filling.{local-room}
use Rattle.backplane.proofs.Keeping.{histories-follow, history-room, history-high}
use Rattle.backplane.proofs.machine.Machine.do_local.Goals as goal

pub settle-requires-clause-board : goal.settle-requires-clause-board
settle-requires-clause-board c =
    let m = c.self.inside in
    let e = Local c.args.board c.args.before c.args.after c.args.done in
    part-of-user m.setup m.journal.items (vec_capacity m.journal) m.parts m.histories c.self.invariant e
    (can-inside _ c.args.self.now e c.self.view_is c.requires)

pub settle-requires-clause-counts : goal.settle-requires-clause-counts
settle-requires-clause-counts c =
    let m = c.self.inside in
    counts-low m.setup m.journal.items (vec_capacity m.journal) m.parts m.histories c.self.invariant

pub settle-requires-clause-room : goal.settle-requires-clause-room
settle-requires-clause-room c = λ absent held.
    let m = c.self.inside in
    let e = Local c.args.board c.args.before c.args.after c.args.done in
    absurd (local-room m.setup m.journal.items (configuration_after m.setup m.journal.items) m.parts c.args.board
    c.args.before c.args.after c.args.done
    c.self.invariant.fits c.self.invariant.accepted c.self.invariant.parts
    (can-inside _ c.args.self.now e c.self.view_is c.requires) absent held)

pub place-place-requires : goal.place-place-requires
place-place-requires c =
    let m = c.self.inside in
    let e = Local c.args.board c.args.before c.args.after c.args.done in
    let can = can-inside _ c.args.self.now e c.self.view_is c.requires in
    part-still m.setup m.journal.items (vec_capacity m.journal) m.parts c.settle.new.self m.histories c.self.invariant e
    can (c.settle.ensures m.setup (configuration_after m.setup m.journal.items) c.self.invariant.parts)

pub keep-requires-clause-high : goal.keep-requires-clause-high
keep-requires-clause-high c =
    let m = c.self.inside in
    let e = Local c.args.board c.args.before c.args.after c.args.done in
    let part = part-of-user m.setup m.journal.items (vec_capacity m.journal) m.parts m.histories c.self.invariant e
    (can-inside _ c.args.self.now e c.self.view_is c.requires) in
    history-high m.setup m.journal.items (configuration_after m.setup m.journal.items) m.parts m.histories c.args.board
    c.self.invariant.histories c.self.invariant.parts part

pub keep-requires-clause-room : goal.keep-requires-clause-room
keep-requires-clause-room c = λ some.
    let m = c.self.inside in
    let e = Local c.args.board c.args.before c.args.after c.args.done in
    let can = can-inside _ c.args.self.now e c.self.view_is c.requires in
    history-room m.setup m.journal.items (configuration_after m.setup m.journal.items) m.histories c.args.board
    c.args.done.access c.self.invariant.fits
    (stands-sound m.setup m.journal.items (vec_capacity m.journal) m.parts m.histories c.self.invariant)
    c.self.invariant.histories can.present

pub push_reserved-requires : goal.push_reserved-requires
push_reserved-requires c =
    let m = c.self.inside in
    let e = Local c.args.board c.args.before c.args.after c.args.done in
    let room = room-for m.setup m.journal.items (vec_capacity m.journal) m.parts m.histories c.self.invariant e
    (can-inside _ c.args.self.now e c.self.view_is c.requires) in
    let long = m.journal.ok in
    omega arith

pub invariant_of-self : goal.invariant_of-self
invariant_of-self c =
    let m = c.self.inside in
    let conf = configuration_after m.setup m.journal.items in
    let e = Local c.args.board c.args.before c.args.after c.args.done in
    let can = can-inside _ c.args.self.now e c.self.view_is c.requires in
    let shows = c.settle.ensures m.setup conf c.self.invariant.parts in
    let sound = stands-sound m.setup m.journal.items (vec_capacity m.journal) m.parts m.histories c.self.invariant in
    follows m.setup m.journal.items c.push_reserved.new.self.items (vec_capacity m.journal)
    (vec_capacity c.push_reserved.new.self) m.parts c.settle.new.self m.histories c.keep.new.self e
    c.self.invariant can c.push_reserved.ensures.items c.push_reserved.ensures.capacity shows
    (subst (λ (h : Histories). HistoriesKeep m.setup (m.journal.items ++ e ∷ []) h) (sym c.keep.ensures)
    (histories-follow m.setup m.journal.items conf c.settle.new.self m.histories e c.place-place.result
    c.self.invariant.fits sound can shows c.place-place.ensures c.self.invariant.histories))
