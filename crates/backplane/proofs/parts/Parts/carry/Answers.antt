use Rattle.std.proofs.Common.{◌≡◌, ◌∙◌, ap, sym, ℕ, refl, suc, cond, Bool}
use Rattle.std.specs.Prelude.{is_some}
use Rattle.bus_model.specs.Places.{change_place}
use Rattle.bus_model.specs.Events.{Carried}
use Rattle.board.specs.Rack.{Rack}
use Rattle.backplane.specs.declared.phase.Phase.TheVariants.{Idle}
use Rattle.backplane.proofs.Counted.{fills-low}
use Rattle.backplane.proofs.Showing.{shown-data}
use Rattle.backplane.proofs.parts.Parts.carry.Goals as goal

pub transfer-carried-requires-clause-fills : goal.transfer-carried-requires-clause-fills
transfer-carried-requires-clause-fills c =
    fills-low c.args.self.now.rack.counts c.args.connected.now.master c.requires.counts.counts

pub returns-clause-shows : goal.returns-clause-shows
returns-clause-shows c = λ setup x s.
    let e = c.transfer-carried.result in
    let p = c.args.self.now in
    let master : c.args.connected.now.master ≡ e.master =
    sym (ap (λ (d : Carried). d.master) c.transfer-carried.ensures.event) in
    let places =
    c.complete_if.ensures
    ∙ ap (λ (t : Bool). cond t (change_place suc p.places.items c.args.connected.now.master) p.places.items)
    c.is_some-completes.ensures
    ∙ ap (λ (b : ℕ). cond (is_some e.done) (change_place suc p.places.items b) p.places.items) master in
    shown-data setup x p c.transfer-carried.new.rack c.transfer-carried.new.memory c.complete_if.new.places Idle e
    (ap (λ (r : Rack). r.tables) c.transfer-carried.ensures.rack)
    (ap (λ (r : Rack). r.specs) c.transfer-carried.ensures.rack)
    (c.transfer-carried.ensures.shows x (record { rack = s.rack; memory = s.memory }))
    places refl s
