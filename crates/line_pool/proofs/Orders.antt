-- Which frames are out, from the places of the frames in their order.
use Rattle.std.proofs.Common.{◌≡◌, ℕ, ◌+◌, ◌-◌, ◌<◌, ◌≤◌, Bool, true, false, List, [], ◌∷◌, ◌++◌, length, replicate, refl, sym, ap, ◌∙◌, subst, arith, length-append, length-set, inl, inr, ◌⊎◌}
use Rattle.std.specs.Prelude.{slice_index, slice_index_or, slice_set, nat_le, ◌==◌}
use Rattle.std.proofs.lemmas.Bool.{le-leb, lt-leb, eqb-true, eqb-false, cases_lt}
use Rattle.std.proofs.lemmas.List.{same_lists, get_or-map, get_or-set_same, get_or-set_other, get_or-replicate, get_or_append_left, length-map, length-replicate}
use Rattle.line_pool.specs.Kept.{IsOrder, out_of}

-- Whether a frame is out.
pub out_at :
    (place : List ℕ) (free frame : ℕ) (d : Bool) → frame < length place
    → slice_index_or (out_of place free) frame d ≡ nat_le free (slice_index place frame)
out_at place free frame d h = get_or-map (λ p. nat_le free p) place frame 0 d h

module _ (order place : List ℕ) (is : IsOrder order place) where
  -- No other frame is at the place of a frame.
  place_other :
      (frame other : ℕ) → frame < length order → other < length order → (frame ≡ other → ⊥)
      → (slice_index place frame ≡ slice_index place other → ⊥)
  place_other frame other h k differ same =
      differ (sym (is.frame_at_place frame h) ∙ ap (slice_index order) same ∙ is.frame_at_place other k)

  -- With one free place fewer, the frame at that place is out too.
  pub out_taken :
      (free : ℕ) → 0 < free → free ≤ length order
      → out_of place (free - 1) ≡ slice_set (out_of place free) (slice_index order (free - 1)) true
  out_taken free some within = same_lists (out_of place (free - 1)) (slice_set (out_of place free) frame true) long each
    where
      frame : ℕ
      frame = slice_index order (free - 1)

      last : free - 1 < length order
      last = omega (arith, some, within)

      here : frame < length order
      here = is.frames (free - 1) last

      at : slice_index place frame ≡ free - 1
      at = is.place_of_frame (free - 1) last

      long : length (out_of place (free - 1)) ≡ length (slice_set (out_of place free) frame true)
      long =
          length-map place (λ p. nat_le (free - 1) p)
          ∙ sym (length-set (out_of place free) frame true ∙ length-map place (λ p. nat_le free p))

      each :
          (k : ℕ) (d : Bool) → k < length (out_of place (free - 1))
          → slice_index_or (out_of place (free - 1)) k d ≡ slice_index_or (slice_set (out_of place free) frame true) k d
      each k d h = go (k == frame) refl
        where
          inside : k < length place
          inside = let e = length-map place (λ p. nat_le (free - 1) p) in omega (arith, h, e)

          go :
              (b : Bool) → (k == frame) ≡ b
              → slice_index_or (out_of place (free - 1)) k d
              ≡ slice_index_or (slice_set (out_of place free) frame true) k d
          go true e =
              let same : k ≡ frame = eqb-true k frame e in
              let lengths = length-map place (λ p. nat_le free p) in
              let right : slice_index_or (slice_set (out_of place free) frame true) frame d ≡ true =
              get_or-set_same (out_of place free) frame true d (omega (arith, lengths, same, inside)) in
              let left : nat_le (free - 1) (slice_index place frame) ≡ true =
              le-leb (free - 1) (slice_index place frame) (omega (arith, at)) in
              out_at place (free - 1) k d inside ∙ ap (λ i. nat_le (free - 1) (slice_index place i)) same ∙ left
              ∙ sym right ∙ ap (λ i. slice_index_or (slice_set (out_of place free) frame true) i d) (sym same)
          go false e =
              let differ = eqb-false k frame e in
              let lengths = is.long in
              let apart = place_other k frame (omega (arith, inside, lengths)) here differ in
              out_at place (free - 1) k d inside ∙ step (slice_index place k) (λ x. apart (x ∙ sym at))
              ∙ sym (out_at place free k d inside)
              ∙ sym (get_or-set_other (out_of place free) frame k true d differ)
            where
              step : (p : ℕ) → (p ≡ free - 1 → ⊥) → nat_le (free - 1) p ≡ nat_le free p
              step p other = by (cases_lt p free)
                where
                  by : (p < free) ⊎ (free ≤ p) → nat_le (free - 1) p ≡ nat_le free p
                  by (inl less) = lt-leb (free - 1) p (below (cases_lt p (free - 1))) ∙ sym (lt-leb free p less)
                    where
                      below : (p < free - 1) ⊎ (free - 1 ≤ p) → p < free - 1
                      below (inl h) = h
                      below (inr h) = absurd (other (omega (arith, h, less)))
                  by (inr more) = le-leb (free - 1) p (omega (arith, more)) ∙ sym (le-leb free p more)

  -- Where a frame that is out moves to the first place of those that are out, and one more place is free, it is no
  -- longer out.
  pub out_given :
      (free frame : ℕ) → free ≤ slice_index place frame → frame < length order → free < length order
      → out_of (slice_set (slice_set place (slice_index order free) (slice_index place frame)) frame free) (free + 1)
      ≡ slice_set (out_of place free) frame false
  out_given free frame taken inside some =
      same_lists (out_of moved (free + 1)) (slice_set (out_of place free) frame false) long each
    where
      other : ℕ
      other = slice_index order free

      old : ℕ
      old = slice_index place frame

      between : List ℕ
      between = slice_set place other old

      moved : List ℕ
      moved = slice_set between frame free

      other_at : slice_index place other ≡ free
      other_at = is.place_of_frame free some

      lengths : length moved ≡ length place
      lengths = length-set between frame free ∙ length-set place other old

      long : length (out_of moved (free + 1)) ≡ length (slice_set (out_of place free) frame false)
      long =
          length-map moved (λ p. nat_le (free + 1) p) ∙ lengths
          ∙ sym (length-set (out_of place free) frame false ∙ length-map place (λ p. nat_le free p))

      each :
          (k : ℕ) (d : Bool) → k < length (out_of moved (free + 1))
          → slice_index_or (out_of moved (free + 1)) k d
          ≡ slice_index_or (slice_set (out_of place free) frame false) k d
      each k d h = go (k == frame) refl
        where
          within : k < length moved
          within = let e = length-map moved (λ p. nat_le (free + 1) p) in omega (arith, h, e)

          there : k < length place
          there = omega (arith, within, lengths)

          go :
              (b : Bool) → (k == frame) ≡ b
              → slice_index_or (out_of moved (free + 1)) k d
              ≡ slice_index_or (slice_set (out_of place free) frame false) k d
          go true e =
              let same : k ≡ frame = eqb-true k frame e in
              let mid = length-set place other old in
              let outs = length-map place (λ p. nat_le free p) in
              let at : slice_index moved frame ≡ free =
              get_or-set_same between frame free 0 (omega (arith, mid, there, same)) in
              let left : nat_le (free + 1) (slice_index moved k) ≡ false =
              lt-leb (free + 1) (slice_index moved k)
              (let q : slice_index moved k ≡ free = ap (slice_index moved) same ∙ at in omega (arith, q)) in
              let right : slice_index_or (slice_set (out_of place free) frame false) frame d ≡ false =
              get_or-set_same (out_of place free) frame false d (omega (arith, outs, same, there)) in
              out_at moved (free + 1) k d within ∙ left ∙ sym right
              ∙ ap (λ i. slice_index_or (slice_set (out_of place free) frame false) i d) (sym same)
          go false e =
              let differ = eqb-false k frame e in
              let kept : slice_index moved k ≡ slice_index between k = get_or-set_other between frame k free 0 differ in
              out_at moved (free + 1) k d within ∙ ap (nat_le (free + 1)) kept ∙ by differ (k == other) refl
              ∙ sym (out_at place free k d there)
              ∙ sym (get_or-set_other (out_of place free) frame k false d differ)
            where
              step : (p : ℕ) → (p ≡ free → ⊥) → nat_le (free + 1) p ≡ nat_le free p
              step p apart = from (cases_lt p free)
                where
                  from : (p < free) ⊎ (free ≤ p) → nat_le (free + 1) p ≡ nat_le free p
                  from (inl less) = lt-leb (free + 1) p (omega (arith, less)) ∙ sym (lt-leb free p less)
                  from (inr more) = le-leb (free + 1) p (above (cases_lt free p)) ∙ sym (le-leb free p more)
                    where
                      above : (free < p) ⊎ (p ≤ free) → free + 1 ≤ p
                      above (inl h) = omega (arith, h)
                      above (inr h) = absurd (apart (omega (arith, h, more)))

              by :
                  (k ≡ frame → ⊥) → (b : Bool) → (k == other) ≡ b
                  → nat_le (free + 1) (slice_index between k) ≡ nat_le free (slice_index place k)
              by differ true f =
                  let same : k ≡ other = eqb-true k other f in
                  let lens = is.long in
                  let here : slice_index between k ≡ old =
                  ap (slice_index between) same ∙ get_or-set_same place other old 0 (omega (arith, same, there)) in
                  let apart : old ≡ free → ⊥ =
                  λ x. differ (same ∙ ap (slice_index order) (sym x) ∙ is.frame_at_place frame inside) in
                  let high : free + 1 ≤ old = beyond apart (cases_lt free old) in
                  let left : nat_le (free + 1) (slice_index between k) ≡ true =
                  ap (nat_le (free + 1)) here ∙ le-leb (free + 1) old high in
                  let own : slice_index place k ≡ free = ap (slice_index place) same ∙ other_at in
                  left ∙ sym (ap (nat_le free) own ∙ le-leb free free (omega arith))
                where
                  beyond : (old ≡ free → ⊥) → (free < old) ⊎ (old ≤ free) → free + 1 ≤ old
                  beyond apart (inl h) = omega (arith, h)
                  beyond apart (inr h) = absurd (apart (omega (arith, h, taken)))
              by differ false f =
                  let lens = is.long in
                  let same : slice_index between k ≡ slice_index place k =
                  get_or-set_other place other k old 0 (eqb-false k other f) in
                  let apart : slice_index place k ≡ free → ⊥ =
                  λ x.
                  eqb-false k other f
                  (sym (is.frame_at_place k (omega (arith, lens, there))) ∙ ap (slice_index order) x) in
                  ap (nat_le (free + 1)) same ∙ step (slice_index place k) apart

-- ---- the first order

-- Each frame is at the place of its own number.
abbrev pub IsNumbered : List ℕ → ℕ → Type 0
IsNumbered xs n = (i : ℕ) → i < n → slice_index xs i ≡ i

pub numbered_more :
    (xs : List ℕ) (n : ℕ) → length xs ≡ n → IsNumbered xs n
    → (length (xs ++ n ∷ []) ≡ n + 1) × IsNumbered (xs ++ n ∷ []) (n + 1)
numbered_more xs n long is = (let e = length-append xs (n ∷ []) in omega (arith, e, long), each)
  where
    last : (ys : List ℕ) (y : ℕ) → slice_index (ys ++ y ∷ []) (length ys) ≡ y
    last [] y = refl
    last (x ∷ ys) y = last ys y

    each : IsNumbered (xs ++ n ∷ []) (n + 1)
    each i h = go (cases_lt i n)
      where
        go : (i < n) ⊎ (n ≤ i) → slice_index (xs ++ n ∷ []) i ≡ i
        go (inl less) = get_or_append_left xs (n ∷ []) 0 i (omega (arith, less, long)) ∙ is i less
        go (inr more) =
            let here : length xs ≡ i = omega (arith, h, more, long) in
            subst (λ (j : ℕ). slice_index (xs ++ n ∷ []) j ≡ j) here (last xs n ∙ sym long)

pub numbered_order :
    (order place : List ℕ) (n : ℕ) → length order ≡ n → length place ≡ n → IsNumbered order n → IsNumbered place n
    → IsOrder order place
numbered_order order place n long wide is was = record {
  long = wide ∙ sym long;
  frames = λ i h. let e = is i (omega (arith, h, long)) in omega (arith, h, e);
  places = λ f h. let e = was f (omega (arith, h, long)) in omega (arith, h, e);
  place_of_frame = λ i h. ap (slice_index place) (is i (omega (arith, h, long))) ∙ was i (omega (arith, h, long));
  frame_at_place = λ f h. ap (slice_index order) (was f (omega (arith, h, long))) ∙ is f (omega (arith, h, long));
}

pub numbered_free :
    (place : List ℕ) (n : ℕ) → length place ≡ n → IsNumbered place n → out_of place n ≡ replicate n false
numbered_free place n long was = same_lists (out_of place n) (replicate n false) lengths each
  where
    lengths : length (out_of place n) ≡ length (replicate n false)
    lengths = length-map place (λ p. nat_le n p) ∙ long ∙ sym (length-replicate n false)

    each :
        (k : ℕ) (d : Bool) → k < length (out_of place n)
        → slice_index_or (out_of place n) k d ≡ slice_index_or (replicate n false) k d
    each k d h =
        let e = length-map place (λ p. nat_le n p) in
        let here : k < n = omega (arith, h, e, long) in
        let own = was k here in
        out_at place n k d (omega (arith, h, e)) ∙ lt-leb n (slice_index place k) (omega (arith, own, here))
        ∙ sym (get_or-replicate n k false d here)
