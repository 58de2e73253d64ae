-- Each row has a frame of its own in the pool.
use Rattle.std.proofs.Common.{◌≡◌, ℕ, zero, suc, ◌<◌, ◌≤◌, List, [], ◌∷◌, ◌++◌, length, map, get_or, refl, ap, sym, ◌∙◌, arith, ◌⊎◌, inl, inr}
use Rattle.std.specs.Prelude.{Contains}
use Rattle.std.proofs.lemmas.List.{length-map, map-append}
use Rattle.bus_model.specs.Configuration.{Row}
use Rattle.line_pool.specs.Pools.{Pool, IsOut, words_of}
use Rattle.board.specs.declared.frame.Frame.{Frame}
use Rattle.board.specs.Frames.{row_of}
use Rattle.board.specs.Pooled.{FramesHold, RowsHaveFrames, number_count}
use Rattle.board.specs.Station.{Station}
use Rattle.board.specs.Rack.{rows_from, frames_of}
use Rattle.board.proofs.Takings.{same-or-other, count-own, count-past, counted-out, out-times}
use Rattle.board.proofs.Holding.{times-most}

abbrev numbers_of : List Frame → List ℕ
numbers_of fs = map (λ (f : Frame). f.number) fs

abbrev words_in : List Row → List (List ℕ)
words_in rows = map (λ (row : Row). row.words) rows

own-words :
    (pool : Pool) (k : ℕ) (fs : List Frame) → words_in (map (row_of pool k) fs) ≡ map (words_of pool) (numbers_of fs)
own-words pool k [] = refl
own-words pool k (f ∷ fs) = ap (λ (ws : List (List ℕ)). words_of pool f.number ∷ ws) (own-words pool k fs)

all-words :
    (pool : Pool) (k : ℕ) (ss : List Station)
    → words_in (rows_from pool k ss) ≡ map (words_of pool) (numbers_of (frames_of ss))
all-words pool k [] = refl
all-words pool k (s ∷ ss) =
    map-append (λ (row : Row). row.words) (map (row_of pool k) s.frames) (rows_from pool (suc k) ss)
    ∙ ap (λ (ws : List (List ℕ)). ws ++ words_in (rows_from pool (suc k) ss)) (own-words pool k s.frames)
    ∙ ap (λ (ws : List (List ℕ)). map (words_of pool) (numbers_of s.frames) ++ ws) (all-words pool (suc k) ss)
    ∙ sym (map-append (words_of pool) (numbers_of s.frames) (numbers_of (frames_of ss)))
    ∙ ap (map (words_of pool)) (sym (map-append (λ (f : Frame). f.number) s.frames (frames_of ss)))

once-in : (fs : List Frame) (i d : ℕ) → i < length (numbers_of fs) → 1 ≤ number_count (get_or (numbers_of fs) i d) fs
once-in [] i d h = absurd (omega arith)
once-in (f ∷ fs) zero d h = let c = count-own f fs f.number refl in omega arith
once-in (f ∷ fs) (suc i) d h = let r = once-in fs i d (omega arith) in omega arith

twice-in :
    (fs : List Frame) (i j d : ℕ) → i < j → j < length (numbers_of fs)
    → get_or (numbers_of fs) i d ≡ get_or (numbers_of fs) j d
    → 2 ≤ number_count (get_or (numbers_of fs) j d) fs
twice-in [] i j d l h e = absurd (omega arith)
twice-in (f ∷ fs) i zero d l h e = absurd (omega arith)
twice-in (f ∷ fs) zero (suc j) d l h e =
    let c = count-own f fs (get_or (numbers_of fs) j d) (sym e) in
    let r = once-in fs j d (omega arith) in
    omega arith
twice-in (f ∷ fs) (suc i) (suc j) d l h e = let r = twice-in fs i j d (omega arith) (omega arith) e in omega arith

found-in-by :
    (f : Frame) (fs : List Frame) (n : ℕ) → 1 ≤ number_count n (f ∷ fs)
    → (1 ≤ number_count n fs → Contains (numbers_of fs) n)
    → (n ≡ f.number) ⊎ (n ≡ f.number → ⊥) → Contains (numbers_of (f ∷ fs)) n
found-in-by f fs n h rest (inl e) = (0, omega arith, sym e)
found-in-by f fs n h rest (inr e) =
    let c = count-past f fs n e in
    let r = rest (omega arith) in
    let l = r.1 in
    (suc r.0, omega arith, r.2)

found-in : (fs : List Frame) (n : ℕ) → 1 ≤ number_count n fs → Contains (numbers_of fs) n
found-in [] n h = absurd (omega arith)
found-in (f ∷ fs) n h = found-in-by f fs n h (found-in fs n) (same-or-other n f.number)

pub rows-have :
    (pool : Pool) (ss : List Station) (ways : ℕ) → FramesHold pool (frames_of ss) ways
    → RowsHaveFrames pool (rows_from pool 1 ss)
rows-have pool ss ways h = record {
  numbers = numbers_of (frames_of ss);
  words = all-words pool 1 ss;
  out = λ k d l.
      counted-out pool (get_or (numbers_of (frames_of ss)) k d)
      (let o = h.once (get_or (numbers_of (frames_of ss)) k d) in let c = once-in (frames_of ss) k d l in omega arith);
  apart = λ i j d l m e.
      let o = h.once (get_or (numbers_of (frames_of ss)) j d) in
      let t = times-most pool (get_or (numbers_of (frames_of ss)) j d) in
      let c = twice-in (frames_of ss) i j d l m e in
      absurd (omega arith);
  used = λ n o. found-in (frames_of ss) n (let k = h.once n in let t = out-times pool n o in omega arith);
}

-- Where a rack has a row and its pool has one frame, that frame is out.
pub one-frame :
    (pool : Pool) (rows : List Row) → RowsHaveFrames pool rows → 1 ≤ length rows → length pool.out ≡ 1 → IsOut pool 0
one-frame pool rows h some one =
    let long : length rows ≡ length h.numbers =
    sym (length-map rows (λ (row : Row). row.words)) ∙ ap (λ (ws : List (List ℕ)). length ws) h.words
    ∙ length-map h.numbers (words_of pool) in
    let out = h.out 0 0 (omega arith) in
    let i = out.inside in
    let zero : get_or h.numbers 0 0 ≡ 0 = omega arith in
    rw zero at out
