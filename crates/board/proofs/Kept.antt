-- Each set keeps those of a board's frames that belong to it.
use Rattle.std.proofs.Common.{◌≡◌, ℕ, zero, suc, ◌<◌, ◌≤◌, ◌%◌, Bool, true, false, cond, List, [], ◌∷◌, ◌++◌, length, get_or, set, refl, ap, sym, ◌∙◌, arith, ◌⊎◌, inl, inr, Some}
use Rattle.std.specs.Prelude.{filter, slice_get}
use Rattle.std.proofs.lemmas.Bool.Decides.{nat_tests}
use Rattle.std.proofs.lemmas.List.{append-nil}
use Rattle.std.proofs.lemmas.List.Elements.{filter-append}
use Rattle.std.proofs.Math.ListN.{length-set}
use Rattle.moesi_state.specs.declared.State.{State}
use Rattle.moesi_state.specs.States.{holds}
use Rattle.board.specs.declared.frame.Frame.{Frame}
use Rattle.board.specs.Frames.{is_line, frame_at, frames_with, FillsBelow}
use Rattle.board.specs.Sets.{LineSet, SetIsKept, SetsAreKept, AllEmpty, is_of_set, all_in}
use Rattle.board.proofs.FrameFacts.{left}
use Rattle.board.proofs.Filtered.{filter-with, find-among, below-filter, below-append}

pub get-is :
    (sets : List LineSet) (i : ℕ) (s : LineSet) → i < length sets → s ≡ get_or sets i s → slice_get sets i ≡ Some s
get-is [] i s l e = absurd (omega arith)
get-is (x ∷ sets) zero s l e = ap (λ (y : LineSet). Some y) (sym e)
get-is (x ∷ sets) (suc i) s l e = get-is sets i s (omega arith) e

-- The element at a place after a change at one place: what was put there, or what was there before.
get-set : (sets : List LineSet) (i : ℕ) (y : LineSet) (k : ℕ) (s : LineSet) → slice_get (set sets i y) k ≡ Some s
    → ((k ≡ i) × (s ≡ y)) ⊎ ((k ≡ i → ⊥) × (slice_get sets k ≡ Some s))
get-set [] i y k s e = cc
get-set (x ∷ sets) zero y zero s e = let is : y ≡ s = cc in inl (refl, sym is)
get-set (x ∷ sets) zero y (suc k) s e = inr (λ z. omega arith, e)
get-set (x ∷ sets) (suc i) y zero s e = inr (λ z. omega arith, e)
get-set (x ∷ sets) (suc i) y (suc k) s e =
    elim (get-set sets i y k s e) [
      | inl p ↦ inl (let q = p.0 in omega arith, p.1)
      | inr p ↦ inr (λ z. p.0 (omega arith), p.1)
    ]

stable-left :
    (n k line : ℕ) (c here held : Bool) (f : Frame) (state : State) (rest fs : List Frame) → is_of_set n k f ≡ c
    → is_line line f ≡ here → (line % n ≡ k → ⊥) → rest ≡ fs
    → cond c (left here held f state rest) rest ≡ cond c (f ∷ fs) fs
stable-left n k line true true held f state rest fs e h other r =
    let own : f.line % n ≡ k = grind (arith, nat_tests) in
    let same : f.line ≡ line = grind (arith, nat_tests) in
    absurd (other (ap (λ (m : ℕ). m % n) (sym same) ∙ own))
stable-left n k line true false held f state rest fs e h other r = ap (λ (x : List Frame). f ∷ x) r
stable-left n k line false here held f state rest fs e h other r = r

with-cond : (c : Bool) (f : Frame) (fs : List Frame) (line : ℕ) (state : State)
    → frames_with (cond c (f ∷ fs) fs) line state
    ≡ cond c (left (is_line line f) (holds state) f state (frames_with fs line state)) (frames_with fs line state)
with-cond true f fs line state = refl
with-cond false f fs line state = refl

-- A line's state does not touch the other sets.
pub set-stable :
    (n k : ℕ) (fs : List Frame) (line : ℕ) (state : State) → (line % n ≡ k → ⊥)
    → frames_with (filter (is_of_set n k) fs) line state ≡ filter (is_of_set n k) fs
set-stable n k [] line state h = refl
set-stable n k (f ∷ fs) line state h =
    with-cond (is_of_set n k f) f (filter (is_of_set n k) fs) line state
    ∙ stable-left n k line (is_of_set n k f) (is_line line f) (holds state) f state _ (filter (is_of_set n k) fs) refl
    refl h (set-stable n k fs line state h)

-- Each set as it is kept, after a line of one set got a state.
kept-with-each :
    (ways : ℕ) (fs : List Frame) (sets : List LineSet) (i line : ℕ) (state : State) (s s' : LineSet)
    → SetsAreKept ways fs sets → i ≡ line % length sets
    → slice_get sets i ≡ Some s → s'.frames ≡ frames_with s.frames line state → s'.room ≡ s.room
    → (k : ℕ) (o : LineSet) → ((k ≡ i) × (o ≡ s')) ⊎ ((k ≡ i → ⊥) × (slice_get sets k ≡ Some o))
    → SetIsKept (length sets) k ways (frames_with fs line state) o
kept-with-each ways fs sets i line state s s' h at get e room k o (inl p) =
    let here = h.each i s get in
    let wide : ways ≤ s'.room = rw room here.wide in
    rw (p.0, p.1) (record {
      own =
          e ∙ ap (λ (r : List Frame). frames_with r line state) here.own
          ∙ sym (filter-with (is_of_set (length sets) i) fs line state (λ f t. refl));
      wide = wide;
    })
kept-with-each ways fs sets i line state s s' h at get e room k o (inr p) =
    let there = h.each k o p.1 in
    record {
      own = there.own
          ∙ sym (set-stable (length sets) k fs line state (λ z. p.0 (sym z ∙ sym at)))
          ∙ sym (filter-with (is_of_set (length sets) k) fs line state (λ f t. refl));
      wide = there.wide;
    }

pub kept-with :
    (ways : ℕ) (fs : List Frame) (sets : List LineSet) (i line : ℕ) (state : State) (s s' : LineSet)
    → SetsAreKept ways fs sets → i ≡ line % length sets
    → slice_get sets i ≡ Some s → s'.frames ≡ frames_with s.frames line state → s'.room ≡ s.room
    → SetsAreKept ways (frames_with fs line state) (set sets i s')
kept-with ways fs sets i line state s s' h at get e room = record {
  each =
      λ k o g.
      rw length-set (kept-with-each ways fs sets i line state s s' h at get e room k o (get-set sets i s' k o g));
}

-- The other sets stay as they are.
pub kept-stable :
    (ways : ℕ) (fs : List Frame) (sets : List LineSet) (i line : ℕ) (state : State) → SetsAreKept ways fs sets
    → i ≡ line % length sets
    → (k : ℕ) (o : LineSet) → slice_get sets k ≡ Some o → (k ≡ i → ⊥) → frames_with o.frames line state ≡ o.frames
kept-stable ways fs sets i line state h at k o g n =
    let there = h.each k o g in
    rw there.own (set-stable (length sets) k fs line state (λ z. n (sym z ∙ sym at)))

is-own : (n : ℕ) (f : Frame) → is_of_set n (f.line % n) f ≡ true
is-own n f = grind (arith, nat_tests)

is-not : (n k : ℕ) (f : Frame) → (k ≡ f.line % n → ⊥) → is_of_set n k f ≡ false
is-not n k f h = grind (arith, nat_tests)

kept-push-each :
    (ways : ℕ) (fs : List Frame) (sets : List LineSet) (i : ℕ) (f : Frame) (s s' : LineSet) → SetsAreKept ways fs sets
    → i ≡ f.line % length sets
    → slice_get sets i ≡ Some s → s'.frames ≡ s.frames ++ f ∷ [] → s'.room ≡ s.room
    → (k : ℕ) (o : LineSet) → ((k ≡ i) × (o ≡ s')) ⊎ ((k ≡ i → ⊥) × (slice_get sets k ≡ Some o))
    → SetIsKept (length sets) k ways (fs ++ f ∷ []) o
kept-push-each ways fs sets i f s s' h at get e room k o (inl p) =
    let here = h.each i s get in
    let wide : ways ≤ s'.room = rw room here.wide in
    let own : is_of_set (length sets) i f ≡ true = rw at (is-own (length sets) f) in
    rw (p.0, p.1) (record {
      own =
          e ∙ ap (λ (r : List Frame). r ++ f ∷ []) here.own
          ∙ sym (filter-append (is_of_set (length sets) i) fs (f ∷ []) ∙ rw own refl);
      wide = wide;
    })
kept-push-each ways fs sets i f s s' h at get e room k o (inr p) =
    let there = h.each k o p.1 in
    let other : is_of_set (length sets) k f ≡ false = is-not (length sets) k f (λ z. p.0 (z ∙ sym at)) in
    record {
      own = there.own ∙ sym (filter-append (is_of_set (length sets) k) fs (f ∷ []) ∙ rw other (append-nil _));
      wide = there.wide;
    }

pub kept-push :
    (ways : ℕ) (fs : List Frame) (sets : List LineSet) (i : ℕ) (f : Frame) (s s' : LineSet) → SetsAreKept ways fs sets
    → i ≡ f.line % length sets
    → slice_get sets i ≡ Some s → s'.frames ≡ s.frames ++ f ∷ [] → s'.room ≡ s.room
    → SetsAreKept ways (fs ++ f ∷ []) (set sets i s')
kept-push ways fs sets i f s s' h at get e room = record {
  each = λ k o g. rw length-set (kept-push-each ways fs sets i f s s' h at get e room k o (get-set sets i s' k o g));
}

all-below :
    (n : ℕ) (sets : List LineSet) → ((k : ℕ) (s : LineSet) → slice_get sets k ≡ Some s → FillsBelow n s.frames)
    → FillsBelow n (all_in sets)
all-below n [] h = tt
all-below n (x ∷ sets) h =
    below-append n x.frames (all_in sets) (h 0 x refl) (all-below n sets (λ k s e. h (suc k) s e))

-- The fill numbers of the sets are those of the board.
pub kept-below :
    (ways n : ℕ) (fs : List Frame) (sets : List LineSet) → SetsAreKept ways fs sets → FillsBelow n fs
    → FillsBelow n (all_in sets)
kept-below ways n fs sets h b =
    all-below n sets
    (λ k s e. let there = h.each k s e in rw there.own (below-filter n (is_of_set (length sets) k) fs b))

pub line-is-own : (n line : ℕ) (f : Frame) → is_line line f ≡ true → is_of_set n (line % n) f ≡ true
line-is-own n line f h =
    let same : f.line ≡ line = grind (arith, nat_tests) in
    rw same (grind (arith, nat_tests))

-- A line is looked up in its own set.
pub set-frame :
    (ways : ℕ) (fs : List Frame) (sets : List LineSet) (i line : ℕ) (s : LineSet) → SetsAreKept ways fs sets
    → i ≡ line % length sets → slice_get sets i ≡ Some s
    → frame_at s.frames line ≡ frame_at fs line
set-frame ways fs sets i line s h at get =
    let here = h.each i s get in
    rw (here.own, at) (find-among (is_line line) (is_of_set (length sets) (line % length sets)) fs
    (λ f t. line-is-own (length sets) line f t))

pub empty-kept :
    (ways n j : ℕ) (sets : List LineSet) → AllEmpty ways sets → (k : ℕ) (s : LineSet) → slice_get sets k ≡ Some s
    → SetIsKept n j ways [] s
empty-kept ways n j [] h k s e = cc
empty-kept ways n j (x ∷ sets) h zero s e = let is : x ≡ s = cc in rw (← is) (record { own = h.0.0; wide = h.0.1 })
empty-kept ways n j (x ∷ sets) h (suc k) s e = empty-kept ways n j sets h.1 k s e

pub empty-push :
    (ways : ℕ) (sets : List LineSet) (s : LineSet) → AllEmpty ways sets → s.frames ≡ [] → ways ≤ s.room
    → AllEmpty ways (sets ++ s ∷ [])
empty-push ways [] s h e w = ((e, w), tt)
empty-push ways (x ∷ sets) s h e w = (h.0, empty-push ways sets s h.1 e w)
