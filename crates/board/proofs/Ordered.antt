-- The frames of all sets in order of fill, as a frame gets a state and as one is filled.
use Rattle.std.proofs.Common.{◌≡◌, ℕ, zero, suc, ◌+◌, ◌<◌, ◌≤◌, Bool, true, false, List, [], ◌∷◌, ◌++◌, set, refl, ap, sym, ◌∙◌, arith, append_assoc, Some}
use Rattle.std.specs.Prelude.{filter, slice_get}
use Rattle.std.proofs.lemmas.Bool.Decides.{nat_tests}
use Rattle.std.proofs.lemmas.List.{append-nil}
use Rattle.std.proofs.lemmas.List.Elements.{filter-append}
use Rattle.moesi_state.specs.declared.State.{State}
use Rattle.board.specs.declared.frame.Frame.{Frame}
use Rattle.board.specs.Frames.{frames_with, FillsBelow}
use Rattle.board.specs.Sets.{LineSet, all_in, has_fill, in_order}
use Rattle.board.proofs.Filtered.{filter-with, with-append}

-- Giving a line's frames a state keeps the order.
pub order-with :
    (k n : ℕ) (fs : List Frame) (line : ℕ) (state : State)
    → in_order k n (frames_with fs line state) ≡ frames_with (in_order k n fs) line state
order-with k zero fs line state = refl
order-with k (suc n) fs line state =
    rw (filter-with (has_fill k) fs line state (λ f s. refl), order-with (suc k) n fs line state)
    (sym (with-append (filter (has_fill k) fs) (in_order (suc k) n fs) line state))

-- The last fill number is at the end.
order-end : (k n : ℕ) (fs : List Frame) → in_order k (suc n) fs ≡ in_order k n fs ++ filter (has_fill (k + n)) fs
order-end k zero fs = let e : k + 0 ≡ k = omega arith in rw e (append-nil _)
order-end k (suc n) fs =
    let e : suc k + n ≡ k + suc n = omega arith in
    ap (λ (r : List Frame). filter (has_fill k) fs ++ r) (order-end (suc k) n fs)
    ∙ sym (append_assoc (filter (has_fill k) fs) (in_order (suc k) n fs) (filter (has_fill (suc k + n)) fs))
    ∙ ap (λ (m : ℕ). (filter (has_fill k) fs ++ in_order (suc k) n fs) ++ filter (has_fill m) fs) e

pushed-past : (p : Frame → Bool) (xs : List Frame) (f : Frame) → p f ≡ false → filter p (xs ++ f ∷ []) ≡ filter p xs
pushed-past p xs f e = filter-append p xs (f ∷ []) ∙ rw e (append-nil _)

-- A frame at the end of its set that fails a test is passed over.
all-past :
    (p : Frame → Bool) (sets : List LineSet) (i : ℕ) (s s' : LineSet) (f : Frame) → slice_get sets i ≡ Some s
    → s'.frames ≡ s.frames ++ f ∷ [] → p f ≡ false
    → filter p (all_in (set sets i s')) ≡ filter p (all_in sets)
all-past p [] i s s' f h e n = cc
all-past p (x ∷ sets) zero s s' f h e n =
    let is : x ≡ s = cc in
    filter-append p s'.frames (all_in sets)
    ∙ ap (λ (r : List Frame). filter p r ++ filter p (all_in sets)) e
    ∙ ap (λ (r : List Frame). r ++ filter p (all_in sets)) (pushed-past p s.frames f n)
    ∙ ap (λ (y : LineSet). filter p y.frames ++ filter p (all_in sets)) (sym is)
    ∙ sym (filter-append p x.frames (all_in sets))
all-past p (x ∷ sets) (suc i) s s' f h e n =
    filter-append p x.frames (all_in (set sets i s'))
    ∙ ap (λ (r : List Frame). filter p x.frames ++ r) (all-past p sets i s s' f h e n)
    ∙ sym (filter-append p x.frames (all_in sets))

fill-other : (k : ℕ) (f : Frame) → k < f.fill → has_fill k f ≡ false
fill-other k f h = grind (arith, nat_tests)

fill-own : (k : ℕ) (f : Frame) → f.fill ≡ k → has_fill k f ≡ true
fill-own k f h = grind (arith, nat_tests)

fill-less : (k : ℕ) (f : Frame) → f.fill < k → has_fill k f ≡ false
fill-less k f h = grind (arith, nat_tests)

order-past :
    (k n : ℕ) (sets : List LineSet) (i : ℕ) (s s' : LineSet) (f : Frame) → slice_get sets i ≡ Some s
    → s'.frames ≡ s.frames ++ f ∷ [] → k + n ≤ f.fill
    → in_order k n (all_in (set sets i s')) ≡ in_order k n (all_in sets)
order-past k zero sets i s s' f h e l = refl
order-past k (suc n) sets i s s' f h e l =
    rw (
      all-past (has_fill k) sets i s s' f h e (fill-other k f (omega arith)),
      order-past (suc k) n sets i s s' f h e (omega arith),
    ) refl

none-below : (n : ℕ) (fs : List Frame) → FillsBelow n fs → filter (has_fill n) fs ≡ []
none-below n [] h = refl
none-below n (f ∷ fs) h = rw (fill-less n f h.0) (none-below n fs h.1)

split-left : (n : ℕ) (xs ys : List Frame) → FillsBelow n (xs ++ ys) → FillsBelow n xs
split-left n [] ys h = tt
split-left n (x ∷ xs) ys h = (h.0, split-left n xs ys h.1)

split-right : (n : ℕ) (xs ys : List Frame) → FillsBelow n (xs ++ ys) → FillsBelow n ys
split-right n [] ys h = h
split-right n (x ∷ xs) ys h = split-right n xs ys h.1

-- The one frame with a fill number that no other has.
all-only :
    (n : ℕ) (sets : List LineSet) (i : ℕ) (s s' : LineSet) (f : Frame) → slice_get sets i ≡ Some s
    → s'.frames ≡ s.frames ++ f ∷ [] → f.fill ≡ n
    → FillsBelow n (all_in sets) → filter (has_fill n) (all_in (set sets i s')) ≡ f ∷ []
all-only n [] i s s' f h e is b = cc
all-only n (x ∷ sets) zero s s' f h e is b =
    let same : x ≡ s = cc in
    let low : FillsBelow n s.frames = rw (← same) (split-left n x.frames (all_in sets) b) in
    filter-append (has_fill n) s'.frames (all_in sets)
    ∙ ap (λ (r : List Frame). filter (has_fill n) s'.frames ++ r)
    (none-below n (all_in sets) (split-right n x.frames (all_in sets) b))
    ∙ append-nil (filter (has_fill n) s'.frames)
    ∙ ap (filter (has_fill n)) e
    ∙ filter-append (has_fill n) s.frames (f ∷ [])
    ∙ ap (λ (r : List Frame). r ++ filter (has_fill n) (f ∷ [])) (none-below n s.frames low)
    ∙ rw (fill-own n f is) refl
all-only n (x ∷ sets) (suc i) s s' f h e is b =
    filter-append (has_fill n) x.frames (all_in (set sets i s'))
    ∙ ap (λ (r : List Frame). r ++ filter (has_fill n) (all_in (set sets i s')))
    (none-below n x.frames (split-left n x.frames (all_in sets) b))
    ∙ all-only n sets i s s' f h e is (split-right n x.frames (all_in sets) b)

-- A frame that is filled at the end of its set is the last of all.
pub order-push :
    (n : ℕ) (sets : List LineSet) (i : ℕ) (s s' : LineSet) (f : Frame) → slice_get sets i ≡ Some s
    → s'.frames ≡ s.frames ++ f ∷ [] → f.fill ≡ n
    → FillsBelow n (all_in sets) → in_order 0 (suc n) (all_in (set sets i s')) ≡ in_order 0 n (all_in sets) ++ f ∷ []
order-push n sets i s s' f h e is b =
    let here : 0 + n ≡ n = omega arith in
    order-end 0 n (all_in (set sets i s'))
    ∙ ap (λ (m : ℕ). in_order 0 n (all_in (set sets i s')) ++ filter (has_fill m) (all_in (set sets i s'))) here
    ∙ ap (λ (r : List Frame). r ++ filter (has_fill n) (all_in (set sets i s')))
    (order-past 0 n sets i s s' f h e (omega arith))
    ∙ ap (λ (r : List Frame). in_order 0 n (all_in sets) ++ r) (all-only n sets i s s' f h e is b)

all-same :
    (sets : List LineSet) (line : ℕ) (state : State)
    → ((k : ℕ) (s : LineSet) → slice_get sets k ≡ Some s → frames_with s.frames line state ≡ s.frames)
    → frames_with (all_in sets) line state ≡ all_in sets
all-same [] line state h = refl
all-same (x ∷ sets) line state h =
    with-append x.frames (all_in sets) line state
    ∙ ap (λ (r : List Frame). r ++ frames_with (all_in sets) line state) (h 0 x refl)
    ∙ ap (λ (r : List Frame). x.frames ++ r) (all-same sets line state (λ k s e. h (suc k) s e))

-- Giving a line's frames a state changes one set.
pub all-with :
    (sets : List LineSet) (i : ℕ) (s s' : LineSet) (line : ℕ) (state : State) → slice_get sets i ≡ Some s
    → s'.frames ≡ frames_with s.frames line state
    → ((k : ℕ) (o : LineSet) → slice_get sets k ≡ Some o → (k ≡ i → ⊥) → frames_with o.frames line state ≡ o.frames)
    → all_in (set sets i s') ≡ frames_with (all_in sets) line state
all-with [] i s s' line state h e others = cc
all-with (x ∷ sets) zero s s' line state h e others =
    let is : x ≡ s = cc in
    ap (λ (r : List Frame). r ++ all_in sets) e
    ∙ ap (λ (y : LineSet). frames_with y.frames line state ++ all_in sets) (sym is)
    ∙ ap (λ (r : List Frame). frames_with x.frames line state ++ r)
    (sym (all-same sets line state (λ k o g. others (suc k) o g (λ z. omega arith))))
    ∙ sym (with-append x.frames (all_in sets) line state)
all-with (x ∷ sets) (suc i) s s' line state h e others =
    ap (λ (r : List Frame). r ++ all_in (set sets i s')) (sym (others 0 x refl (λ z. omega arith)))
    ∙ ap (λ (r : List Frame). frames_with x.frames line state ++ r)
    (all-with sets i s s' line state h e (λ k o g n. others (suc k) o g (λ z. n (omega arith))))
    ∙ sym (with-append x.frames (all_in sets) line state)
