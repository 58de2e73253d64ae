use Rattle.std.proofs.Common.{◌≡◌, ℕ, ◌∙◌, ap, sym, subst, arith, [], ◌∷◌, ◌++◌}
use Rattle.std.specs.Prelude.{vec_capacity}
use Rattle.bus_model.specs.Events.{DataPhase, Carried}
use Rattle.bus_model.specs.Places.{at_place}
use Rattle.backplane.specs.Histories.{Histories, HistoriesKeep, kept}
use Rattle.backplane.specs.Parts.{IsPartOf}
use Rattle.backplane.specs.Machine.{configuration_after}
use Rattle.backplane.proofs.Filling.{can-carry}
use Rattle.backplane.proofs.Keeping.{histories-follow, history-room, history-high}
use Rattle.backplane.proofs.Moving.{connection-is, master-present, master-board, data-can, carried-is}
use Rattle.backplane.proofs.Stepping.{part-of-present, part-still, room-for, counts-low, stands-sound, follows}
use Rattle.backplane.proofs.machine.Machine.do_data.Goals as goal

pub present-access-requires : goal.present-access-requires
present-access-requires c =
    let m = c.self.inside in
    let sound = stands-sound m.setup m.journal.items (vec_capacity m.journal) m.parts m.histories c.self.invariant in
    let is = connection-is m.setup (configuration_after m.setup m.journal.items) m.parts c.in-Some.connected
    c.self.invariant.parts (sym c.connection.ensures ∙ c.in-Some.is) in
    master-board _ c.args.self.now m.journal.items c.in-Some.connected c.self.view_is c.self.invariant.fits sound is

pub carry-carried-requires-clause-can : goal.carry-carried-requires-clause-can
carry-carried-requires-clause-can c =
    let m = c.self.inside in
    let conf = configuration_after m.setup m.journal.items in
    let t = c.in-Some.connected in
    let sound = stands-sound m.setup m.journal.items (vec_capacity m.journal) m.parts m.histories c.self.invariant in
    let is = connection-is m.setup conf m.parts t c.self.invariant.parts (sym c.connection.ensures ∙ c.in-Some.is) in
    let present = master-present m.setup m.journal.items conf t sound is in
    let part = part-of-present m.setup m.journal.items (vec_capacity m.journal) m.parts m.histories c.self.invariant
    t.master present.0 present.1 in
    can-carry m.setup m.journal.items conf m.parts t c.self.invariant.fits sound c.self.invariant.parts part is

pub carry-carried-requires-clause-counts : goal.carry-carried-requires-clause-counts
carry-carried-requires-clause-counts c =
    let m = c.self.inside in
    counts-low m.setup m.journal.items (vec_capacity m.journal) m.parts m.histories c.self.invariant

pub place-place-requires : goal.place-place-requires
place-place-requires c =
    let m = c.self.inside in
    let conf = configuration_after m.setup m.journal.items in
    let t = c.in-Some.connected in
    let e = c.carry-carried.result in
    let sound = stands-sound m.setup m.journal.items (vec_capacity m.journal) m.parts m.histories c.self.invariant in
    let is = connection-is m.setup conf m.parts t c.self.invariant.parts (sym c.connection.ensures ∙ c.in-Some.is) in
    let carried = carried-is _ c.args.self.now t c.present-access.result e c.self.view_is c.present-access.ensures
    (c.carry-carried.ensures.carried m.setup conf c.self.invariant.parts) in
    let can = data-can m.setup m.journal.items conf t e sound is carried in
    let part = part-still m.setup m.journal.items (vec_capacity m.journal) m.parts c.carry-carried.new.self m.histories
    c.self.invariant (DataPhase e) can (c.carry-carried.ensures.shows m.setup conf c.self.invariant.parts) in
    subst (λ (b : ℕ). IsPartOf c.carry-carried.new.self b) (ap (λ (x : Carried). x.master) carried) part

pub keep-requires-clause-high : goal.keep-requires-clause-high
keep-requires-clause-high c =
    let m = c.self.inside in
    let conf = configuration_after m.setup m.journal.items in
    let t = c.in-Some.connected in
    let sound = stands-sound m.setup m.journal.items (vec_capacity m.journal) m.parts m.histories c.self.invariant in
    let is = connection-is m.setup conf m.parts t c.self.invariant.parts (sym c.connection.ensures ∙ c.in-Some.is) in
    let present = master-present m.setup m.journal.items conf t sound is in
    let part = part-of-present m.setup m.journal.items (vec_capacity m.journal) m.parts m.histories c.self.invariant
    t.master present.0 present.1 in
    history-high m.setup m.journal.items conf m.parts m.histories t.master c.self.invariant.histories
    c.self.invariant.parts part

pub keep-requires-clause-room : goal.keep-requires-clause-room
keep-requires-clause-room c = λ some.
    let m = c.self.inside in
    let conf = configuration_after m.setup m.journal.items in
    let t = c.in-Some.connected in
    let sound = stands-sound m.setup m.journal.items (vec_capacity m.journal) m.parts m.histories c.self.invariant in
    let is = connection-is m.setup conf m.parts t c.self.invariant.parts (sym c.connection.ensures ∙ c.in-Some.is) in
    let present = master-present m.setup m.journal.items conf t sound is in
    history-room m.setup m.journal.items conf m.histories t.master present.0 c.self.invariant.fits sound
    c.self.invariant.histories present.1

pub push_reserved-requires : goal.push_reserved-requires
push_reserved-requires c =
    let m = c.self.inside in
    let conf = configuration_after m.setup m.journal.items in
    let t = c.in-Some.connected in
    let e = c.carry-carried.result in
    let sound = stands-sound m.setup m.journal.items (vec_capacity m.journal) m.parts m.histories c.self.invariant in
    let is = connection-is m.setup conf m.parts t c.self.invariant.parts (sym c.connection.ensures ∙ c.in-Some.is) in
    let carried = carried-is _ c.args.self.now t c.present-access.result e c.self.view_is c.present-access.ensures
    (c.carry-carried.ensures.carried m.setup conf c.self.invariant.parts) in
    let can = data-can m.setup m.journal.items conf t e sound is carried in
    let room = room-for m.setup m.journal.items (vec_capacity m.journal) m.parts m.histories c.self.invariant
    (DataPhase e) can in
    let long = m.journal.ok in
    omega arith

pub invariant_of-self : goal.invariant_of-self
invariant_of-self c =
    let m = c.self.inside in
    let conf = configuration_after m.setup m.journal.items in
    let t = c.in-Some.connected in
    let e = c.carry-carried.result in
    let sound = stands-sound m.setup m.journal.items (vec_capacity m.journal) m.parts m.histories c.self.invariant in
    let is = connection-is m.setup conf m.parts t c.self.invariant.parts (sym c.connection.ensures ∙ c.in-Some.is) in
    let carried = carried-is _ c.args.self.now t c.present-access.result e c.self.view_is c.present-access.ensures
    (c.carry-carried.ensures.carried m.setup conf c.self.invariant.parts) in
    let can = data-can m.setup m.journal.items conf t e sound is carried in
    let shows = c.carry-carried.ensures.shows m.setup conf c.self.invariant.parts in
    let master : t.master ≡ e.master = sym (ap (λ (x : Carried). x.master) carried) in
    let place = c.place-place.result in
    let at = ap (λ (b : ℕ). at_place c.carry-carried.new.self.places.items b) (sym master) ∙ c.place-place.ensures in
    let keeps = c.keep.ensures ∙ ap (λ (b : ℕ). kept m.histories b place e.done) master in
    follows m.setup m.journal.items c.push_reserved.new.self.items (vec_capacity m.journal)
    (vec_capacity c.push_reserved.new.self) m.parts c.carry-carried.new.self m.histories c.keep.new.self
    (DataPhase e)
    c.self.invariant can c.push_reserved.ensures.items c.push_reserved.ensures.capacity shows
    (subst (λ (h : Histories). HistoriesKeep m.setup (m.journal.items ++ DataPhase e ∷ []) h) (sym keeps)
    (histories-follow m.setup m.journal.items conf c.carry-carried.new.self m.histories (DataPhase e) place
    c.self.invariant.fits sound can shows at c.self.invariant.histories))
