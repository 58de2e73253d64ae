-- How a pool is kept: the frames in an order, in which the free ones come first, and the place of
-- each frame in this order.
use Rattle.std.specs.Prelude.{◌≡◌, ℕ, ◌<◌, ◌≤◌, Bool, nat_le, List, length, map, slice_index}

-- The order and the places are inverse to each other.
pub record IsOrder (order place : List ℕ) : Type 0 where
  pub long : length place ≡ length order
  pub frames : (i : ℕ) → i < length order → slice_index order i < length order
  pub places : (frame : ℕ) → frame < length order → slice_index place frame < length order
  pub place_of_frame : (i : ℕ) → i < length order → slice_index place (slice_index order i) ≡ i
  pub frame_at_place :
      (frame : ℕ) → frame < length order → slice_index order (slice_index place frame) ≡ frame

-- Which frames are out, where this many free ones come first.
abbrev pub out_of : List ℕ → ℕ → List Bool
out_of place free = map (λ p. nat_le free p) place

-- What is true of the fields of a pool.
pub record IsKept (order place : List ℕ) (words : List (List ℕ)) (free : ℕ) : Type 0 where
  pub is_order : IsOrder order place
  pub has_words : length words ≡ length order
  pub within : free ≤ length order
