use Rattle.std.proofs.Common.{◌≡◌, ℕ, sym, ◌∙◌, ap, Some, None, Option, List}
use Rattle.std.specs.Prelude.{option_map}
use Rattle.bus_model.specs.Places.{at_place}
use Rattle.bus_model.specs.Configuration.{Row}
use Rattle.board.specs.declared.frame.Frame.{Frame}
use Rattle.board.specs.Frames.{frame_at}
use Rattle.board.proofs.Stations.{row-here, state-here, frame-out}
use Rattle.board.proofs.Held.{none-invalid}
use Rattle.board.proofs.rack.Rack.words.Goals as goal

pub words-requires : goal.words-requires
words-requires c =
    let s = c.station.result.now in
    let at : at_place c.self.inside.stations.items c.args.board ≡ Some s =
    rw c.deref.ensures.value at c.station.ensures in
    frame-out c.self.inside.tables.items c.self.inside.pool _ c.args.board c.args.line s c.in-Some.f at c.self.invariant
    (sym (c.in-Some.ensures.frame ∙ ap (frame_at s.frames) c.line.view_is))

pub returns-in-Some-clause-words : goal.returns-in-Some-clause-words
returns-in-Some-clause-words c =
    let s = c.station.result.now in
    let pool = c.self.inside.pool in
    let at : at_place c.self.inside.stations.items c.args.board ≡ Some s =
    rw c.deref.ensures.value at c.station.ensures in
    ap (λ (ws : List ℕ). Some ws) c.words.ensures
    ∙ sym (ap (option_map (λ (row : Row). row.words))
    (row-here c.self.inside.tables.items pool _ _ c.args.board c.args.line s (Some c.in-Some.f) c.self.view_is at
    (sym (c.in-Some.ensures.frame ∙ ap (frame_at s.frames) c.line.view_is))))

pub returns-in-Some-clause-none : goal.returns-in-Some-clause-none
returns-in-Some-clause-none c =
    let s = c.station.result.now in
    let at : at_place c.self.inside.stations.items c.args.board ≡ Some s =
    rw c.deref.ensures.value at c.station.ensures in
    rw (state-here c.self.inside.tables.items c.self.inside.pool _ _ c.args.board c.args.line s (Some c.in-Some.f)
    c.self.view_is at
    (sym (c.in-Some.ensures.frame ∙ ap (frame_at s.frames) c.line.view_is)))
    (none-invalid (Some c.in-Some.f) c.in-Some.ensures.held)

pub returns-in-None-clause-words : goal.returns-in-None-clause-words
returns-in-None-clause-words c =
    let s = c.station.result.now in
    let none : Option Frame = None in
    let at : at_place c.self.inside.stations.items c.args.board ≡ Some s =
    rw c.deref.ensures.value at c.station.ensures in
    sym (ap (option_map (λ (row : Row). row.words))
    (row-here c.self.inside.tables.items c.self.inside.pool _ _ c.args.board c.args.line s none c.self.view_is at
    (sym (c.in-None.ensures.frame ∙ ap (frame_at s.frames) c.line.view_is))))

pub returns-in-None-clause-none : goal.returns-in-None-clause-none
returns-in-None-clause-none c =
    let s = c.station.result.now in
    let none : Option Frame = None in
    let at : at_place c.self.inside.stations.items c.args.board ≡ Some s =
    rw c.deref.ensures.value at c.station.ensures in
    rw (state-here c.self.inside.tables.items c.self.inside.pool _ _ c.args.board c.args.line s none c.self.view_is at
    (sym (c.in-None.ensures.frame ∙ ap (frame_at s.frames) c.line.view_is)))
    (none-invalid none tt)
