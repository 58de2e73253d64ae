use Rattle.std.proofs.Common.{◌≡◌, ℕ, sym, ◌∙◌, ap, Some, None, Option}
use Rattle.std.specs.Prelude.{option_map, slice_index}
use Rattle.bus_signals.specs.Accesses.{line_of, offset_of}
use Rattle.bus_model.specs.Places.{at_place}
use Rattle.bus_model.specs.Configuration.{Row}
use Rattle.line_pool.specs.Pools.{words_of}
use Rattle.board.specs.declared.frame.Frame.{Frame}
use Rattle.board.specs.Frames.{frame_at}
use Rattle.board.proofs.Stations.{row-here, state-here, frame-out}
use Rattle.board.proofs.Held.{none-invalid}
use Rattle.board.proofs.rack.Rack.word.Goals as goal

pub word-requires-clause-frame : goal.word-requires-clause-frame
word-requires-clause-frame c =
    let s = c.station.result.now in
    let at : at_place c.self.inside.stations.items c.args.board ≡ Some s =
    rw c.deref.ensures.value at c.station.ensures in
    frame-out c.self.inside.tables.items c.self.inside.pool _ c.args.board (line_of c.args.addr) s c.in-Some.f at
    c.self.invariant
    (sym (c.in-Some.ensures.frame ∙ ap (frame_at s.frames) (c.frame.view_is ∙ c.line.ensures)))

pub returns-in-Some-clause-word : goal.returns-in-Some-clause-word
returns-in-Some-clause-word c =
    let s = c.station.result.now in
    let pool = c.self.inside.pool in
    let at : at_place c.self.inside.stations.items c.args.board ≡ Some s =
    rw c.deref.ensures.value at c.station.ensures in
    ap (λ (n : ℕ). Some n) (c.word.ensures ∙ ap (slice_index (words_of pool c.in-Some.f.number)) c.offset.ensures)
    ∙ sym (ap (option_map (λ (row : Row). slice_index row.words (offset_of c.args.addr)))
    (row-here c.self.inside.tables.items pool _ _ c.args.board (line_of c.args.addr) s (Some c.in-Some.f) c.self.view_is
    at
    (sym (c.in-Some.ensures.frame ∙ ap (frame_at s.frames) (c.frame.view_is ∙ c.line.ensures)))))

pub returns-in-Some-clause-none : goal.returns-in-Some-clause-none
returns-in-Some-clause-none c =
    let s = c.station.result.now in
    let at : at_place c.self.inside.stations.items c.args.board ≡ Some s =
    rw c.deref.ensures.value at c.station.ensures in
    rw (state-here c.self.inside.tables.items c.self.inside.pool _ _ c.args.board (line_of c.args.addr) s
    (Some c.in-Some.f) c.self.view_is at
    (sym (c.in-Some.ensures.frame ∙ ap (frame_at s.frames) (c.frame.view_is ∙ c.line.ensures))))
    (none-invalid (Some c.in-Some.f) c.in-Some.ensures.held)

pub returns-in-None-clause-word : goal.returns-in-None-clause-word
returns-in-None-clause-word c =
    let s = c.station.result.now in
    let none : Option Frame = None in
    let at : at_place c.self.inside.stations.items c.args.board ≡ Some s =
    rw c.deref.ensures.value at c.station.ensures in
    sym (ap (option_map (λ (row : Row). slice_index row.words (offset_of c.args.addr)))
    (row-here c.self.inside.tables.items c.self.inside.pool _ _ c.args.board (line_of c.args.addr) s none c.self.view_is
    at
    (sym (c.in-None.ensures.frame ∙ ap (frame_at s.frames) (c.frame.view_is ∙ c.line.ensures)))))

pub returns-in-None-clause-none : goal.returns-in-None-clause-none
returns-in-None-clause-none c =
    let s = c.station.result.now in
    let none : Option Frame = None in
    let at : at_place c.self.inside.stations.items c.args.board ≡ Some s =
    rw c.deref.ensures.value at c.station.ensures in
    rw (state-here c.self.inside.tables.items c.self.inside.pool _ _ c.args.board (line_of c.args.addr) s none
    c.self.view_is at
    (sym (c.in-None.ensures.frame ∙ ap (frame_at s.frames) (c.frame.view_is ∙ c.line.ensures))))
    (none-invalid none tt)
