-- A pool as it is kept, after a frame was taken or given back.
use Rattle.std.proofs.Common.{◌≡◌, ℕ, zero, suc, ◌+◌, ◌-◌, ◌<◌, ◌≤◌, Bool, true, false, List, [], ◌∷◌, length, refl, sym, ap, ◌∙◌, arith}
use Rattle.std.specs.Prelude.{nat_le, slice_index, slice_index_or, slice_set}
use Rattle.std.proofs.lemmas.Bool.{leb-true, lt-leb, le-leb, both_ways}
use Rattle.std.proofs.lemmas.List.{length-map}
use Rattle.line_pool.specs.Pools.{Pool, IsOut, IsFree, AllOut, count_out, with_out}
use Rattle.line_pool.specs.Kept.{IsKept, out_of}
use Rattle.line_pool.proofs.Counts.{count_taken, count_given}
use Rattle.line_pool.proofs.Orders.{out_at, out_taken, out_given}

-- The pool that is kept in this way.
abbrev pub shown : List ℕ → List (List ℕ) → ℕ → Pool
shown place words free = record { out = out_of place free; words = words }

module _ (order place : List ℕ) (words : List (List ℕ)) (free : ℕ) (kept : IsKept order place words free) where
  long : length (out_of place free) ≡ length order
  long = length-map place (λ p. nat_le free p) ∙ kept.is_order.long

  -- ---- a frame that is out

  pub out_inside : (frame : ℕ) → IsOut (shown place words free) frame → frame < length order
  out_inside frame out = let l = long in let h = out.inside in omega (arith, l, h)

  out_high : (frame : ℕ) → IsOut (shown place words free) frame → free ≤ slice_index place frame
  out_high frame out =
      let l = kept.is_order.long in
      let h = out_inside frame out in
      leb-true free (slice_index place frame) (sym (out_at place free frame false (omega (arith, l, h))) ∙ out.taken)

  pub out_some : (frame : ℕ) → IsOut (shown place words free) frame → free < length order
  out_some frame out =
      let low = out_high frame out in
      let high = kept.is_order.places frame (out_inside frame out) in
      omega (arith, low, high)

  pub given :
      (frame : ℕ) (moved : List ℕ) → IsOut (shown place words free) frame
      → moved ≡ slice_set (slice_set place (slice_index order free) (slice_index place frame)) frame free
      → shown moved words (free + 1) ≡ with_out (shown place words free) frame false
  given frame moved out is =
      ap (λ p. shown p words (free + 1)) is
      ∙ ap (λ (o : List Bool). record { out = o; words = words })
      (out_given order place kept.is_order free frame (out_high frame out) (out_inside frame out)
      (out_some frame out))

  pub given_count :
      (frame : ℕ) (moved : List ℕ) → IsOut (shown place words free) frame
      → moved ≡ slice_set (slice_set place (slice_index order free) (slice_index place frame)) frame free
      → count_out (out_of moved (free + 1)) + 1 ≡ count_out (out_of place free)
  given_count frame moved out is =
      ap (λ (p : Pool). count_out p.out + 1) (given frame moved out is)
      ∙ count_given (out_of place free) frame out.inside out.taken

  -- ---- the last frame that is free

  pub last_free : 0 < free → IsFree (shown place words free) (slice_index order (free - 1))
  last_free some =
      let within = kept.within in
      let last : free - 1 < length order = omega (arith, some, within) in
      let here = kept.is_order.frames (free - 1) last in
      let at = kept.is_order.place_of_frame (free - 1) last in
      let l = long in
      let wide = kept.is_order.long in
      record {
        inside = omega (arith, here, l);
        left =
            out_at place free (slice_index order (free - 1)) false (omega (arith, here, wide))
            ∙ lt-leb free (slice_index place (slice_index order (free - 1))) (omega (arith, at, some));
      }

  pub taken :
      0 < free → shown place words (free - 1) ≡ with_out (shown place words free) (slice_index order (free - 1)) true
  taken some =
      ap (λ (o : List Bool). record { out = o; words = words })
      (out_taken order place kept.is_order free some kept.within)

  pub taken_count : 0 < free → count_out (out_of place (free - 1)) ≡ count_out (out_of place free) + 1
  taken_count some =
      let frame = last_free some in
      ap (λ (p : Pool). count_out p.out) (taken some)
      ∙ count_taken (out_of place free) (slice_index order (free - 1)) frame.inside frame.left

  pub not_all_out : 0 < free → AllOut (shown place words free) → ⊥
  not_all_out some all =
      let frame = last_free some in
      let out = all (slice_index order (free - 1)) frame.inside in
      both_ways (slice_index_or (out_of place free) (slice_index order (free - 1)) false) frame.left out.taken

  pub all_out : free ≡ 0 → AllOut (shown place words free)
  all_out none frame inside =
      let wide = length-map place (λ p. nat_le free p) in
      record {
        inside = inside;
        taken = out_at place free frame false (omega (arith, inside, wide))
            ∙ le-leb free (slice_index place frame) (omega (arith, none));
      }

-- An element that is there does not depend on the default for a missing one.
pub same_element : (xs : List ℕ) (i d : ℕ) → i < length xs → slice_index_or xs i d ≡ slice_index xs i
same_element [] i d h = absurd (omega arith)
same_element (x ∷ xs) zero d h = refl
same_element (x ∷ xs) (suc i) d h = same_element xs i d (omega arith)
