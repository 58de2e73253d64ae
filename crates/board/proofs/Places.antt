-- The set of a line: a look-up, a change or a fill in it is the same in all frames of the board.
use Rattle.std.proofs.Common.{◌≡◌, ℕ, ◌+◌, ◌<◌, ◌≤◌, ◌%◌, Bool, true, false, cond, not, List, [], ◌∷◌, ◌++◌, length, get_or, set, refl, ap, sym, ◌∙◌, arith, add-one, Option, Some, None}
use Rattle.std.specs.Prelude.{filter, find, slice_get, is_none, is_some, IsFalse, nat_le, ◌&&◌}
use Rattle.std.proofs.lemmas.Bool.Decides.{nat_tests}
use Rattle.moesi_state.specs.declared.State.{State}
use Rattle.moesi_state.specs.States.{holds}
use Rattle.bus_model.specs.Places.{count_where}
use Rattle.bus_model.specs.Setup.{Shape, Plain, Cached}
use Rattle.line_pool.specs.Pools.{Pool}
use Rattle.board.specs.declared.frame.Frame.{Frame}
use Rattle.board.specs.Frames.{frame_at, frame_state, frames_with, is_in_set_of, AllHeld, FillsBelow}
use Rattle.board.specs.Sets.{LineSet, SetsAreKept, first, set_count, way_count, is_of_set, all_in, in_order}
use Rattle.board.specs.Pooled.{AreOut, pool_after}
use Rattle.board.specs.Station.{ShapeIsFit, set_is_full, victim_frame}
use Rattle.board.proofs.Rows.{count_where-filter}
use Rattle.board.proofs.Held.{found-held, none-held}
use Rattle.board.proofs.Oldest.{find-first}
use Rattle.board.proofs.Ordered.{order-with, order-push, all-with}
use Rattle.board.proofs.Kept.{get-is, set-frame, kept-with, kept-stable, kept-push, kept-below, line-is-own}
use Rattle.board.proofs.Takings.{among-out, among-after}

some-sets : (shape : Shape) → ShapeIsFit shape → 1 ≤ set_count shape
some-sets Plain h = omega arith
some-sets (Cached sets ways) h = h.0

-- The set of a line is one of the sets, in which this set stands.
pub record IsPlaced (shape : Shape) (fs : List Frame) (sets : List LineSet) (n line : ℕ) (s : LineSet) : Type 0 where
  pub shape_fits : ShapeIsFit shape
  pub many : length sets ≡ set_count shape
  pub kept : SetsAreKept (way_count shape) fs sets
  pub count : n ≡ length sets
  pub is : s ≡ get_or sets (line % n) s

at :
    (shape : Shape) (fs : List Frame) (sets : List LineSet) (n line : ℕ) (s : LineSet) → IsPlaced shape fs sets n line s
    → slice_get sets (line % n) ≡ Some s
at shape fs sets n line s h =
    let some = some-sets shape h.shape_fits in
    let m = h.many in
    let c = h.count in
    let pos : 1 ≤ n = omega arith in
    let inside : line % n < length sets = omega arith in
    get-is sets (line % n) s inside h.is

own :
    (shape : Shape) (fs : List Frame) (sets : List LineSet) (n line : ℕ) (s : LineSet) → IsPlaced shape fs sets n line s
    → s.frames ≡ filter (is_of_set n (line % n)) fs
own shape fs sets n line s h =
    (h.kept.each (line % n) s (at shape fs sets n line s h)).own
    ∙ ap (λ (m : ℕ). filter (is_of_set m (line % n)) fs) (sym h.count)

-- A line is looked up in its set.
pub placed-frame :
    (shape : Shape) (fs : List Frame) (sets : List LineSet) (n line : ℕ) (s : LineSet) → IsPlaced shape fs sets n line s
    → frame_at s.frames line ≡ frame_at fs line
placed-frame shape fs sets n line s h =
    set-frame (way_count shape) fs sets (line % n) line s h.kept (ap (λ (m : ℕ). line % m) h.count)
    (at shape fs sets n line s h)

-- A set has as many frames as the board has in it, and the oldest of these.
pub placed-count :
    (shape : Shape) (fs : List Frame) (sets : List LineSet) (n line : ℕ) (s : LineSet) → IsPlaced shape fs sets n line s
    → length s.frames ≡ count_where (is_in_set_of n line) fs
placed-count shape fs sets n line s h =
    ap (λ (r : List Frame). length r) (own shape fs sets n line s h) ∙ sym (count_where-filter (is_in_set_of n line) fs)

pub placed-first :
    (shape : Shape) (fs : List Frame) (sets : List LineSet) (n line : ℕ) (s : LineSet) → IsPlaced shape fs sets n line s
    → first s.frames ≡ find (is_in_set_of n line) fs
placed-first shape fs sets n line s h =
    ap first (own shape fs sets n line s h) ∙ sym (find-first (is_in_set_of n line) fs)

-- A set that is not full has room for one more frame.
not-full : (ways count : ℕ) → nat_le ways count ≡ false → count < ways
not-full ways count h = grind (arith, nat_tests)

pub placed-room :
    (shape : Shape) (fs : List Frame) (sets : List LineSet) (n line : ℕ) (s : LineSet) → IsPlaced shape fs sets n line s
    → IsFalse (set_is_full shape fs line) → length s.frames < s.room
placed-room Plain fs sets n line s h full = cc
placed-room (Cached many ways) fs sets n line s h full =
    let c = placed-count (Cached many ways) fs sets n line s h in
    let w : ways ≤ s.room = (h.kept.each (line % n) s (at (Cached many ways) fs sets n line s h)).wide in
    let e : n ≡ many = h.count ∙ h.many in
    let less : count_where (is_in_set_of n line) fs < ways = rw e (not-full ways _ full) in
    omega arith

-- A state that a line's frame gets in its set is also its state among all frames.
pub placed-with :
    (shape : Shape) (fs : List Frame) (sets : List LineSet) (n line fills : ℕ) (state : State) (s s' : LineSet)
    → IsPlaced shape fs sets n line s
    → fs ≡ in_order 0 fills (all_in sets) → s' ≡ record { frames = frames_with s.frames line state; room = s.room }
    → in_order 0 fills (all_in (set sets (line % n) s')) ≡ frames_with fs line state
placed-with shape fs sets n line fills state s s' h view e =
    ap (in_order 0 fills)
    (all-with sets (line % n) s s' line state (at shape fs sets n line s h) (ap (λ (x : LineSet). x.frames) e)
    (kept-stable (way_count shape) fs sets (line % n) line state h.kept (ap (λ (m : ℕ). line % m) h.count)))
    ∙ order-with 0 fills (all_in sets) line state
    ∙ ap (λ (r : List Frame). frames_with r line state) (sym view)

pub placed-kept :
    (shape : Shape) (fs : List Frame) (sets : List LineSet) (n line : ℕ) (state : State) (s s' : LineSet)
    → IsPlaced shape fs sets n line s
    → s' ≡ record { frames = frames_with s.frames line state; room = s.room }
    → SetsAreKept (way_count shape) (frames_with fs line state) (set sets (line % n) s')
placed-kept shape fs sets n line state s s' h e =
    kept-with (way_count shape) fs sets (line % n) line state s s' h.kept (ap (λ (m : ℕ). line % m) h.count)
    (at shape fs sets n line s h)
    (ap (λ (x : LineSet). x.frames) e) (ap (λ (x : LineSet). x.room) e)

pub placed-out :
    (shape : Shape) (fs : List Frame) (sets : List LineSet) (n line : ℕ) (s : LineSet) (pool : Pool)
    → IsPlaced shape fs sets n line s
    → AreOut pool fs → AreOut pool s.frames
placed-out shape fs sets n line s pool h out =
    rw (own shape fs sets n line s h) (among-out pool (is_of_set n (line % n)) fs out)

pub placed-after :
    (shape : Shape) (fs : List Frame) (sets : List LineSet) (n line : ℕ) (s : LineSet) (state : State)
    (words : List ℕ → List ℕ) (pool : Pool)
    → IsPlaced shape fs sets n line s → pool_after s.frames line state words pool ≡ pool_after fs line state words pool
placed-after shape fs sets n line s state words pool h =
    ap (λ (r : List Frame). pool_after r line state words pool) (own shape fs sets n line s h)
    ∙ among-after (is_of_set n (line % n)) fs line state words pool (λ f t. line-is-own n line f t)

-- A frame that is filled into the set of its line is the last of all frames.
pub placed-push :
    (shape : Shape) (fs : List Frame) (sets : List LineSet) (n fills : ℕ) (f : Frame) (s s' : LineSet)
    → IsPlaced shape fs sets n f.line s
    → fs ≡ in_order 0 fills (all_in sets) → FillsBelow fills fs → f.fill ≡ fills
    → s' ≡ record { frames = s.frames ++ f ∷ []; room = s.room }
    → in_order 0 (fills + 1) (all_in (set sets (f.line % n) s')) ≡ fs ++ f ∷ []
placed-push shape fs sets n fills f s s' h view below fill e =
    rw add-one
    (order-push fills sets (f.line % n) s s' f (at shape fs sets n f.line s h) (ap (λ (x : LineSet). x.frames) e) fill
    (kept-below (way_count shape) fills fs sets h.kept below)
    ∙ ap (λ (r : List Frame). r ++ f ∷ []) (sym view))

pub pushed-kept :
    (shape : Shape) (fs : List Frame) (sets : List LineSet) (n : ℕ) (f : Frame) (s s' : LineSet)
    → IsPlaced shape fs sets n f.line s
    → s' ≡ record { frames = s.frames ++ f ∷ []; room = s.room }
    → SetsAreKept (way_count shape) (fs ++ f ∷ []) (set sets (f.line % n) s')
pushed-kept shape fs sets n f s s' h e =
    kept-push (way_count shape) fs sets (f.line % n) f s s' h.kept (ap (λ (m : ℕ). f.line % m) h.count)
    (at shape fs sets n f.line s h)
    (ap (λ (x : LineSet). x.frames) e) (ap (λ (x : LineSet). x.room) e)

-- The frame that must go before a line is filled.
open-line :
    (shape : Shape) (fs : List Frame) (sets : List LineSet) (n line : ℕ) (s : LineSet) (o : Option Frame)
    → IsPlaced shape fs sets n line s → AllHeld fs
    → o ≡ frame_at s.frames line → is_none o ≡ not (holds (frame_state fs line))
open-line shape fs sets n line s o h held e =
    ap is_none (e ∙ placed-frame shape fs sets n line s h) ∙ none-held (frame_at fs line) (found-held fs line held)

victim-by : (a b : Bool) (o : Option Frame) → a ≡ true → b ≡ true → cond (a && b) o None ≡ o
victim-by a b o e h = rw (e, h) refl

pub victim-there :
    (many ways : ℕ) (fs : List Frame) (sets : List LineSet) (n line : ℕ) (s : LineSet) (o : Option Frame)
    → IsPlaced (Cached many ways) fs sets n line s → AllHeld fs
    → o ≡ frame_at s.frames line → is_none o ≡ true → ways ≤ length s.frames
    → first s.frames ≡ victim_frame (Cached many ways) fs line
victim-there many ways fs sets n line s o h held e none full =
    let shape : Shape = Cached many ways in
    let same : n ≡ many = h.count ∙ h.many in
    let count : length s.frames ≡ count_where (is_in_set_of many line) fs =
    placed-count shape fs sets n line s h ∙ ap (λ (k : ℕ). count_where (is_in_set_of k line) fs) same in
    let test : nat_le ways (count_where (is_in_set_of many line) fs) ≡ true = grind (arith, nat_tests) in
    let free : not (holds (frame_state fs line)) ≡ true = sym (open-line shape fs sets n line s o h held e) ∙ none in
    placed-first shape fs sets n line s h
    ∙ ap (λ (k : ℕ). find (is_in_set_of k line) fs) same
    ∙ sym (victim-by (not (holds (frame_state fs line))) (nat_le ways (count_where (is_in_set_of many line) fs))
    (find (is_in_set_of many line) fs) free test)

none-left : (b : Bool) (o : Option Frame) (a : Bool) → a ≡ false → None ≡ cond (a && b) o None
none-left b o a e = rw e refl

none-right : (a : Bool) (o : Option Frame) (b : Bool) → b ≡ false → None ≡ cond (a && b) o None
none-right true o b e = rw e refl
none-right false o b e = refl

pub victim-held :
    (many ways : ℕ) (fs : List Frame) (sets : List LineSet) (n line : ℕ) (s : LineSet) (o : Option Frame)
    → IsPlaced (Cached many ways) fs sets n line s → AllHeld fs
    → o ≡ frame_at s.frames line → is_none o ≡ false → None ≡ victim_frame (Cached many ways) fs line
victim-held many ways fs sets n line s o h held e some =
    none-left (nat_le ways (count_where (is_in_set_of many line) fs)) (find (is_in_set_of many line) fs)
    (not (holds (frame_state fs line)))
    (sym (open-line (Cached many ways) fs sets n line s o h held e) ∙ some)

pub victim-room :
    (many ways : ℕ) (fs : List Frame) (sets : List LineSet) (n line : ℕ) (s : LineSet)
    → IsPlaced (Cached many ways) fs sets n line s
    → length s.frames < ways → None ≡ victim_frame (Cached many ways) fs line
victim-room many ways fs sets n line s h room =
    let same : n ≡ many = h.count ∙ h.many in
    let count : length s.frames ≡ count_where (is_in_set_of many line) fs =
    placed-count (Cached many ways) fs sets n line s h
    ∙ ap (λ (k : ℕ). count_where (is_in_set_of k line) fs) same in
    let test : nat_le ways (count_where (is_in_set_of many line) fs) ≡ false = grind (arith, nat_tests) in
    none-right (not (holds (frame_state fs line))) (find (is_in_set_of many line) fs)
    (nat_le ways (count_where (is_in_set_of many line) fs)) test

pub none-of : (o : Option Frame) (b t : Bool) → is_some o ≡ not b → b ≡ t → is_none o ≡ t
none-of None true t e h = h
none-of None false t e h = cc
none-of (Some f) true t e h = cc
none-of (Some f) false t e h = h
