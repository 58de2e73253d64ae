-- The frames of all boards stay those that are out of the pool, as a line changes and as one is filled.
use Rattle.std.proofs.Common.{◌≡◌, ℕ, zero, suc, ◌+◌, ◌<◌, ◌≤◌, Bool, true, false, cond, List, [], ◌∷◌, ◌++◌, length, map, set, refl, ap, sym, ◌∙◌, arith, ◌⊎◌, inl, inr, Some, None}
use Rattle.std.specs.Prelude.{filter_map, slice_get, slice_index_or, IsFalse, ◌==◌}
use Rattle.std.specs.List.{cons_option}
use Rattle.std.proofs.lemmas.Bool.Decides.{nat_tests}
use Rattle.std.proofs.lemmas.List.{length-append, length-set}
use Rattle.moesi_state.specs.declared.State.{State}
use Rattle.moesi_state.specs.States.{holds}
use Rattle.bus_model.specs.Places.{count_where}
use Rattle.bus_model.specs.Configuration.{Row}
use Rattle.line_pool.specs.Pools.{Pool, IsFree, AllOut, no_words, words_of, with_words, with_out, count_out}
use Rattle.line_pool.proofs.Counts.{count_taken, count_all}
use Rattle.board.specs.declared.frame.Frame.{Frame}
use Rattle.board.specs.Frames.{is_line, frames_with, row_of}
use Rattle.board.specs.Pooled.{AreOut, FramesHold, has_number, number_count, times_out, with_changed, with_given, pool_after}
use Rattle.board.specs.Station.{Station, set_is_full}
use Rattle.board.specs.Rack.{frames_of, all_ways, AllSetsFit, row_given}
use Rattle.board.proofs.FrameFacts.{left}
use Rattle.board.proofs.Filtered.{count-append}
use Rattle.board.proofs.Shapes.{room-free, room-most}
use Rattle.board.proofs.Rows.{rows-same, count-part}
use Rattle.board.proofs.Takings.{bit, same-or-other, worded, read-set, read-other, count-own, count-past, head-out, tail-out, out-times, times-taken, times-kept, changed-out, changed-long, changed-other, given-words, given-long, given-times, given-count, held-count, held-long}

pub times-most : (pool : Pool) (n : ℕ) → times_out pool n ≤ 1
times-most pool n =
    elim (bit (slice_index_or pool.out n false)) [ inl e ↦ rw e (omega arith) | inr e ↦ rw e (omega arith) ]

-- The pool after a change, in a state that holds and in one that does not.

after-held :
    (fs : List Frame) (l : ℕ) (state : State) (words : List ℕ → List ℕ) (pool : Pool) → holds state ≡ true
    → pool_after fs l state words pool ≡ with_changed l words fs pool
after-held fs l state words pool e = rw e refl

after-gone :
    (fs : List Frame) (l : ℕ) (state : State) (words : List ℕ → List ℕ) (pool : Pool) → holds state ≡ false
    → pool_after fs l state words pool ≡ with_given l fs pool
after-gone fs l state words pool e = rw e refl

after-times : (fs : List Frame) (l : ℕ) (state : State) (words : List ℕ → List ℕ) (pool : Pool) (n : ℕ) → AreOut pool fs
    → times_out (pool_after fs l state words pool) n + number_count n fs
    ≡ times_out pool n + number_count n (frames_with fs l state)
after-times fs l state words pool n h = elim (bit (holds state)) [
  | inl e ↦ (
      let p : times_out (pool_after fs l state words pool) n ≡ times_out (with_changed l words fs pool) n =
      ap (λ (q : Pool). times_out q n) (after-held fs l state words pool e) in
      let o : times_out (with_changed l words fs pool) n ≡ times_out pool n =
      ap (λ (out : List Bool). cond (slice_index_or out n false) 1 0) (changed-out l words fs pool) in
      let c = held-count l fs state n e in
      omega arith
      )
  | inr e ↦ (
      let p : times_out (pool_after fs l state words pool) n ≡ times_out (with_given l fs pool) n =
      ap (λ (q : Pool). times_out q n) (after-gone fs l state words pool e) in
      let c = given-times l fs state pool n e h in
      omega arith
      )
]

after-count : (fs : List Frame) (l : ℕ) (state : State) (words : List ℕ → List ℕ) (pool : Pool) → AreOut pool fs
    → count_out (pool_after fs l state words pool).out + length fs
    ≡ count_out pool.out + length (frames_with fs l state)
after-count fs l state words pool h = elim (bit (holds state)) [
  | inl e ↦ (
      let p : count_out (pool_after fs l state words pool).out ≡ count_out pool.out =
      ap (λ (q : Pool). count_out q.out) (after-held fs l state words pool e)
      ∙ ap count_out (changed-out l words fs pool) in
      let c = held-long l fs state e in
      omega arith
      )
  | inr e ↦ (
      let p : count_out (pool_after fs l state words pool).out ≡ count_out (with_given l fs pool).out =
      ap (λ (q : Pool). count_out q.out) (after-gone fs l state words pool e) in
      let c = given-count l fs state pool e h in
      omega arith
      )
]

after-long :
    (fs : List Frame) (l : ℕ) (state : State) (words : List ℕ → List ℕ) (pool : Pool)
    → length (pool_after fs l state words pool).out ≡ length pool.out
after-long fs l state words pool = elim (bit (holds state)) [
  | inl e ↦ ap (λ (q : Pool). length q.out) (after-held fs l state words pool e)
      ∙ ap (λ (out : List Bool). length out) (changed-out l words fs pool)
  | inr e ↦ ap (λ (q : Pool). length q.out) (after-gone fs l state words pool e) ∙ given-long l fs pool
]

after-lined :
    (fs : List Frame) (l : ℕ) (state : State) (words : List ℕ → List ℕ) (pool : Pool)
    → length (pool_after fs l state words pool).words ≡ length pool.words
after-lined fs l state words pool = elim (bit (holds state)) [
  | inl e ↦ ap (λ (q : Pool). length q.words) (after-held fs l state words pool e) ∙ changed-long l words fs pool
  | inr e ↦ ap (λ (q : Pool). length q.words) (after-gone fs l state words pool e)
      ∙ ap (λ (ws : List (List ℕ)). length ws) (given-words l fs pool)
]

pub after-other :
    (fs : List Frame) (l : ℕ) (state : State) (words : List ℕ → List ℕ) (pool : Pool) (n : ℕ) → number_count n fs ≡ 0
    → words_of (pool_after fs l state words pool) n ≡ words_of pool n
after-other fs l state words pool n c = elim (bit (holds state)) [
  | inl e ↦ ap (λ (q : Pool). words_of q n) (after-held fs l state words pool e) ∙ changed-other l words fs pool n c
  | inr e ↦ ap (λ (q : Pool). words_of q n) (after-gone fs l state words pool e)
      ∙ ap (λ (ws : List (List ℕ)). slice_index_or ws n no_words) (given-words l fs pool)
]

-- The rows of a board after a change.

same : (b : ℕ) → (b == b) ≡ true
same b = grind (arith, nat_tests)

abbrev row_with : ℕ → Frame → State → List ℕ → Row
row_with b f state words = record { board = b; line = f.line; state = state; words = words; fill = f.fill }

gone-by :
    (pool : Pool) (b : ℕ) (here : Bool) (f : Frame) (state : State) (words : List ℕ) (rows : List Row) (fs : List Frame)
    → map (row_of pool b) fs ≡ rows
    → map (row_of pool b) (left here false f state fs)
    ≡ cons_option (cond here (cond false (Some (row_with b f state words)) None) (Some (row_of pool b f))) rows
gone-by pool b true f state words rows fs h = h
gone-by pool b false f state words rows fs h = rw h refl

gone-rows : (pool : Pool) (b l : ℕ) (state : State) (words : List ℕ → List ℕ) (fs : List Frame) → holds state ≡ false
    → map (row_of pool b) (frames_with fs l state) ≡ filter_map (row_given b l state words) (map (row_of pool b) fs)
gone-rows pool b l state words [] e = refl
gone-rows pool b l state words (f ∷ fs) e =
    rw (same b, e) (gone-by pool b (is_line l f) f state (words (words_of pool f.number)) _ _
    (gone-rows pool b l state words fs e))

held-by :
    (pool : Pool) (b : ℕ) (here : Bool) (f : Frame) (state : State) (new old : List ℕ) (rows : List Row)
    (fs : List Frame)
    → words_of pool f.number ≡ cond here new old → map (row_of pool b) fs ≡ rows
    → map (row_of pool b) (left here true f state fs)
    ≡ cons_option (cond here (cond true (Some (row_with b f state new)) None) (Some (row_with b f f.state old)))
    rows
held-by pool b true f state new old rows fs e h = rw (e, h) refl
held-by pool b false f state new old rows fs e h = rw (e, h) refl

worded-own : (b : Bool) (words : List ℕ → List ℕ) (f : Frame) (pool : Pool) → f.number < length pool.words
    → words_of (worded b words f pool) f.number ≡ cond b (words (words_of pool f.number)) (words_of pool f.number)
worded-own true words f pool h = read-set pool.words f.number _ h
worded-own false words f pool h = refl

worded-other :
    (b : Bool) (words : List ℕ → List ℕ) (f : Frame) (pool : Pool) (n : ℕ) → (n ≡ f.number → ⊥)
    → words_of (worded b words f pool) n ≡ words_of pool n
worded-other true words f pool n h = read-other pool.words f.number n _ h
worded-other false words f pool n h = refl

worded-out :
    (b : Bool) (words : List ℕ → List ℕ) (f : Frame) (pool : Pool) (fs : List Frame) → AreOut pool fs
    → AreOut (worded b words f pool) fs
worded-out true words f pool fs h = record { once = h.once }
worded-out false words f pool fs h = h

worded-lined :
    (b : Bool) (words : List ℕ → List ℕ) (f : Frame) (pool : Pool) → length pool.words ≡ length pool.out
    → length (worded b words f pool).words ≡ length (worded b words f pool).out
worded-lined true words f pool h = length-set pool.words f.number _ ∙ h
worded-lined false words f pool h = h

held-rows :
    (pool : Pool) (b l : ℕ) (state : State) (words : List ℕ → List ℕ) (fs : List Frame) → holds state ≡ true
    → AreOut pool fs → length pool.words ≡ length pool.out
    → map (row_of (with_changed l words fs pool) b) (frames_with fs l state)
    ≡ filter_map (row_given b l state words) (map (row_of pool b) fs)
held-rows pool b l state words [] e out lined = refl
held-rows pool b l state words (f ∷ fs) e out lined =
    let here = is_line l f in
    let next = worded here words f pool in
    let o = head-out pool f fs out in
    let most = out.once f.number in
    let t = out-times pool f.number o in
    let c = count-own f fs f.number refl in
    let gone : number_count f.number fs ≡ 0 = omega arith in
    let within : f.number < length pool.words = let i = o.inside in omega arith in
    let own : words_of (with_changed l words fs next) f.number
    ≡ cond here (words (words_of pool f.number)) (words_of pool f.number) =
    changed-other l words fs next f.number gone ∙ worded-own here words f pool within in
    let apart : (n : ℕ) → 1 ≤ number_count n fs → n ≡ f.number → ⊥ =
    λ n k z.
    let q : number_count n fs ≡ number_count f.number fs = ap (λ (m : ℕ). number_count m fs) z in omega arith in
    let kept : map (row_of next b) fs ≡ map (row_of pool b) fs =
    rows-same pool next b fs (λ n k. worded-other here words f pool n (apart n k)) in
    let rest : map (row_of (with_changed l words fs next) b) (frames_with fs l state)
    ≡ filter_map (row_given b l state words) (map (row_of pool b) fs) =
    held-rows next b l state words fs e (worded-out here words f pool fs (tail-out pool f fs out))
    (worded-lined here words f pool lined)
    ∙ ap (filter_map (row_given b l state words)) kept in
    rw (same b, e) (held-by (with_changed l words fs next) b here f state (words (words_of pool f.number))
    (words_of pool f.number) _ _ own rest)

pub after-rows :
    (pool : Pool) (b l : ℕ) (state : State) (words : List ℕ → List ℕ) (fs : List Frame) → AreOut pool fs
    → length pool.words ≡ length pool.out
    → map (row_of (pool_after fs l state words pool) b) (frames_with fs l state)
    ≡ filter_map (row_given b l state words) (map (row_of pool b) fs)
after-rows pool b l state words fs out lined = elim (bit (holds state)) [
  | inl e ↦ ap (λ (q : Pool). map (row_of q b) (frames_with fs l state)) (after-held fs l state words pool e)
      ∙ held-rows pool b l state words fs e out lined
  | inr e ↦ ap (λ (q : Pool). map (row_of q b) (frames_with fs l state)) (after-gone fs l state words pool e)
      ∙ rows-same pool (with_given l fs pool) b (frames_with fs l state)
      (λ n k. ap (λ (ws : List (List ℕ)). slice_index_or ws n no_words) (given-words l fs pool))
      ∙ gone-rows pool b l state words fs e
]

-- All frames after one board's changed.

swap-count : (p : Frame → Bool) (ss : List Station) (i : ℕ) (s s' : Station) → slice_get ss i ≡ Some s
    → count_where p (frames_of (set ss i s')) + count_where p s.frames
    ≡ count_where p (frames_of ss) + count_where p s'.frames
swap-count p [] i s s' h = cc
swap-count p (x ∷ ss) zero s s' h =
    let is : x ≡ s = cc in
    let q : count_where p x.frames ≡ count_where p s.frames = ap (λ (y : Station). count_where p y.frames) is in
    let a = count-append p s'.frames (frames_of ss) in
    let c = count-append p x.frames (frames_of ss) in
    omega arith
swap-count p (x ∷ ss) (suc i) s s' h =
    let r = swap-count p ss i s s' h in
    let a = count-append p x.frames (frames_of (set ss i s')) in
    let c = count-append p x.frames (frames_of ss) in
    omega arith

swap-long : (ss : List Station) (i : ℕ) (s s' : Station) → slice_get ss i ≡ Some s
    → length (frames_of (set ss i s')) + length s.frames ≡ length (frames_of ss) + length s'.frames
swap-long [] i s s' h = cc
swap-long (x ∷ ss) zero s s' h =
    let is : x ≡ s = cc in
    let q : length x.frames ≡ length s.frames = ap (λ (y : Station). length y.frames) is in
    let a = length-append s'.frames (frames_of ss) in
    let c = length-append x.frames (frames_of ss) in
    omega arith
swap-long (x ∷ ss) (suc i) s s' h =
    let r = swap-long ss i s s' h in
    let a = length-append x.frames (frames_of (set ss i s')) in
    let c = length-append x.frames (frames_of ss) in
    omega arith

pub part-out :
    (pool : Pool) (ss : List Station) (ways i : ℕ) (s : Station) → FramesHold pool (frames_of ss) ways
    → slice_get ss i ≡ Some s → AreOut pool s.frames
part-out pool ss ways i s h get =
    record { once = λ n. let o = h.once n in let p = count-part n ss i s get in omega arith }

pub hold-changed :
    (pool : Pool) (ss : List Station) (ways i l : ℕ) (state : State) (words : List ℕ → List ℕ) (s s' : Station)
    → FramesHold pool (frames_of ss) ways → slice_get ss i ≡ Some s
    → s'.frames ≡ frames_with s.frames l state
    → FramesHold (pool_after s.frames l state words pool) (frames_of (set ss i s')) ways
hold-changed pool ss ways i l state words s s' h get e =
    let out = part-out pool ss ways i s h get in
    record {
      once = λ n.
          let o = h.once n in
          let p = after-times s.frames l state words pool n out in
          let q = swap-count (has_number n) ss i s s' get in
          let k : number_count n s'.frames ≡ number_count n (frames_with s.frames l state) =
          ap (λ (fs : List Frame). number_count n fs) e in
          omega arith;
      counted =
          let o = h.counted in
          let p = after-count s.frames l state words pool out in
          let q = swap-long ss i s s' get in
          let k : length s'.frames ≡ length (frames_with s.frames l state) = ap (λ (fs : List Frame). length fs) e in
          omega arith;
      enough = after-long s.frames l state words pool ∙ h.enough;
      lined = after-lined s.frames l state words pool ∙ h.lined ∙ sym (after-long s.frames l state words pool);
    }

-- A pool with a frame taken and filled.
abbrev pub filled : Pool → ℕ → List ℕ → Pool
filled pool n words = with_words (with_out pool n true) n words

free-times : (pool : Pool) (n : ℕ) → IsFree pool n → times_out pool n ≡ 0
free-times pool n o = rw o.left refl

filled-once :
    (pool : Pool) (ss : List Station) (ways i : ℕ) (f : Frame) (words : List ℕ) (s s' : Station) (n : ℕ)
    → FramesHold pool (frames_of ss) ways → IsFree pool f.number → slice_get ss i ≡ Some s
    → s'.frames ≡ s.frames ++ f ∷ [] → (n ≡ f.number) ⊎ (n ≡ f.number → ⊥)
    → number_count n (frames_of (set ss i s')) ≡ times_out (filled pool f.number words) n
filled-once pool ss ways i f words s s' n h free get e (inl is) =
    let o = h.once n in
    let z : times_out pool n ≡ 0 = rw is (free-times pool f.number free) in
    let t : times_out (filled pool f.number words) n ≡ 1 = times-taken pool n f.number free.inside is in
    let q = swap-count (has_number n) ss i s s' get in
    let k : number_count n s'.frames ≡ number_count n (s.frames ++ f ∷ []) =
    ap (λ (fs : List Frame). number_count n fs) e in
    let a = count-append (has_number n) s.frames (f ∷ []) in
    let c = count-own f [] n is in
    omega arith
filled-once pool ss ways i f words s s' n h free get e (inr not) =
    let o = h.once n in
    let t : times_out (filled pool f.number words) n ≡ times_out pool n = times-kept pool n f.number true not in
    let q = swap-count (has_number n) ss i s s' get in
    let k : number_count n s'.frames ≡ number_count n (s.frames ++ f ∷ []) =
    ap (λ (fs : List Frame). number_count n fs) e in
    let a = count-append (has_number n) s.frames (f ∷ []) in
    let c = count-past f [] n not in
    omega arith

pub hold-filled :
    (pool : Pool) (ss : List Station) (ways i : ℕ) (f : Frame) (words : List ℕ) (s s' : Station)
    → FramesHold pool (frames_of ss) ways → IsFree pool f.number → slice_get ss i ≡ Some s
    → s'.frames ≡ s.frames ++ f ∷ [] → FramesHold (filled pool f.number words) (frames_of (set ss i s')) ways
hold-filled pool ss ways i f words s s' h free get e = record {
  once = λ n. filled-once pool ss ways i f words s s' n h free get e (same-or-other n f.number);
  counted =
      let o = h.counted in
      let p = count_taken pool.out f.number free.inside free.left in
      let q = swap-long ss i s s' get in
      let k : length s'.frames ≡ length (s.frames ++ f ∷ []) = ap (λ (fs : List Frame). length fs) e in
      let a = length-append s.frames (f ∷ []) in
      omega arith;
  enough = length-set pool.out f.number true ∙ h.enough;
  lined = length-set pool.words f.number words ∙ h.lined ∙ sym (length-set pool.out f.number true);
}

-- The words of a frame that was just filled, and those of the frames that boards have.

pub filled-own :
    (pool : Pool) (ss : List Station) (ways n : ℕ) (words : List ℕ) → FramesHold pool (frames_of ss) ways
    → IsFree pool n → words_of (filled pool n words) n ≡ words
filled-own pool ss ways n words h free =
    read-set pool.words n words (let i = free.inside in let l = h.lined in omega arith)

pub filled-other :
    (pool : Pool) (ss : List Station) (ways n : ℕ) (words : List ℕ) → FramesHold pool (frames_of ss) ways
    → IsFree pool n
    → (m : ℕ) → 1 ≤ number_count m (frames_of ss) → words_of (filled pool n words) m ≡ words_of pool m
filled-other pool ss ways n words h free =
    λ m k.
    read-other pool.words n m words
    (λ z. let o = h.once m in let t : times_out pool m ≡ 0 = rw z (free-times pool n free) in omega arith)

-- A frame is free while some set has room.

ways-most : (ss : List Station) → AllSetsFit ss → length (frames_of ss) ≤ all_ways (map (λ (s : Station). s.spec) ss)
ways-most [] h = omega arith
ways-most (s ∷ ss) h =
    let a = length-append s.frames (frames_of ss) in
    let m = room-most s.spec.shape s.frames h.0.0 h.0.1 in
    let r = ways-most ss h.1 in
    omega arith

ways-left :
    (ss : List Station) (i l : ℕ) (s : Station) → AllSetsFit ss → slice_get ss i ≡ Some s
    → IsFalse (set_is_full s.spec.shape s.frames l)
    → length (frames_of ss) < all_ways (map (λ (s : Station). s.spec) ss)
ways-left [] i l s h get room = cc
ways-left (x ∷ ss) zero l s h get room =
    let is : x ≡ s = cc in
    let a = length-append x.frames (frames_of ss) in
    let m = room-free x.spec.shape x.frames l h.0.0 h.0.1 (rw is room) in
    let r = ways-most ss h.1 in
    omega arith
ways-left (x ∷ ss) (suc i) l s h get room =
    let a = length-append x.frames (frames_of ss) in
    let m = room-most x.spec.shape x.frames h.0.0 h.0.1 in
    let r = ways-left ss i l s h.1 get room in
    omega arith

pub some-free :
    (pool : Pool) (ss : List Station) (i l : ℕ) (s : Station)
    → FramesHold pool (frames_of ss) (all_ways (map (λ (s : Station). s.spec) ss)) → AllSetsFit ss
    → slice_get ss i ≡ Some s
    → IsFalse (set_is_full s.spec.shape s.frames l) → AllOut pool → ⊥
some-free pool ss i l s h fit get room all =
    let less = ways-left ss i l s fit get room in
    let every = count_all pool.out (λ n k. let o = all n k in o.taken) in
    let c = h.counted in
    let e = h.enough in
    omega arith
