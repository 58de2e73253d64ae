use Rattle.std.proofs.Common.{◌≡◌, sym, ◌∙◌, ap, Some}
use Rattle.std.specs.Prelude.{option_map, is_some}
use Rattle.bus_model.specs.Places.{at_place}
use Rattle.bus_model.specs.Configuration.{Row}
use Rattle.board.specs.Frames.{frame_at}
use Rattle.board.proofs.Stations.{row-here, state-here, fill-by, some-by}
use Rattle.board.proofs.Held.{none-invalid}
use Rattle.board.proofs.rack.Rack.frame.Goals as goal

pub returns-clause-fill : goal.returns-clause-fill
returns-clause-fill c =
    let pool = c.self.inside.pool in
    let s = c.station.result.now in
    let at : at_place c.self.inside.stations.items c.args.board ≡ Some s =
    rw c.deref.ensures.value at c.station.ensures in
    ap (option_map (λ (row : Row). row.fill))
    (row-here c.self.inside.tables.items pool _ _ c.args.board c.args.line s c.frame.result c.self.view_is at
    (sym (c.frame.ensures.frame ∙ ap (frame_at s.frames) c.line.view_is)))
    ∙ fill-by pool c.args.board c.frame.result

pub returns-clause-state : goal.returns-clause-state
returns-clause-state c =
    let s = c.station.result.now in
    let at : at_place c.self.inside.stations.items c.args.board ≡ Some s =
    rw c.deref.ensures.value at c.station.ensures in
    state-here c.self.inside.tables.items c.self.inside.pool _ _ c.args.board c.args.line s c.frame.result
    c.self.view_is at (sym (c.frame.ensures.frame ∙ ap (frame_at s.frames) c.line.view_is))

pub returns-clause-none : goal.returns-clause-none
returns-clause-none c = rw (returns-clause-state c) (none-invalid c.frame.result c.frame.ensures.held)

pub returns-clause-row : goal.returns-clause-row
returns-clause-row c =
    let pool = c.self.inside.pool in
    let s = c.station.result.now in
    let at : at_place c.self.inside.stations.items c.args.board ≡ Some s =
    rw c.deref.ensures.value at c.station.ensures in
    ap is_some
    (row-here c.self.inside.tables.items pool _ _ c.args.board c.args.line s c.frame.result c.self.view_is at
    (sym (c.frame.ensures.frame ∙ ap (frame_at s.frames) c.line.view_is)))
    ∙ some-by pool c.args.board c.frame.result
