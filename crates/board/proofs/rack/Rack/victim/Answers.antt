use Rattle.std.proofs.Common.{◌≡◌, ℕ, sym, ◌∙◌, ap, Some, None, Option}
use Rattle.std.specs.Prelude.{option_map}
use Rattle.moesi_state.specs.declared.State.{State}
use Rattle.bus_model.specs.Places.{at_place}
use Rattle.bus_model.specs.Configuration.{Row}
use Rattle.board.specs.declared.frame.Frame.{Frame}
use Rattle.board.specs.Station.{victim_frame}
use Rattle.board.proofs.Stations.{victim-here}
use Rattle.board.proofs.rack.Rack.victim.Goals as goal

pub returns-in-Some : goal.returns-in-Some
returns-in-Some c =
    let s = c.station.result.now in
    let at : at_place c.self.inside.stations.items c.args.board ≡ Some s =
    rw c.deref.ensures.value at c.station.ensures in
    sym (ap (λ (o : Option Row).
    option_map (λ (v : ℕ × State). v.0) (option_map (λ (row : Row). (row.line, row.state)) o))
    (victim-here c.self.inside.tables.items c.self.inside.pool _ _ c.args.board c.args.line s (Some c.in-Some.f)
    c.self.view_is at c.victim.ensures.rise
    (sym (c.in-Some.ensures.victim ∙ ap (victim_frame s.spec.shape s.frames) c.line.view_is))))

pub returns-in-None : goal.returns-in-None
returns-in-None c =
    let s = c.station.result.now in
    let none : Option Frame = None in
    let at : at_place c.self.inside.stations.items c.args.board ≡ Some s =
    rw c.deref.ensures.value at c.station.ensures in
    sym (ap (λ (o : Option Row).
    option_map (λ (v : ℕ × State). v.0) (option_map (λ (row : Row). (row.line, row.state)) o))
    (victim-here c.self.inside.tables.items c.self.inside.pool _ _ c.args.board c.args.line s none c.self.view_is at
    c.victim.ensures.rise
    (sym (c.in-None.ensures.victim ∙ ap (victim_frame s.spec.shape s.frames) c.line.view_is))))
