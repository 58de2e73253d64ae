-- The sets of one board, each a list of frames in order of fill, and the frames of all sets in
-- order of fill.
use Rattle.std.specs.Prelude.{◌≡◌, ℕ, zero, suc, ◌%◌, ◌≤◌, Bool, ◌==◌, List, [], ◌∷◌, ◌++◌, Option, Some, None, filter, length, slice_get}
use Rattle.bus_model.specs.Setup.{Shape, Plain, Cached}
use Rattle.board.specs.declared.frame.Frame.{Frame}

-- A set, as contracts see it: its frames, and how many there is room for.
pub record LineSet : Type 0 where
  pub frames : List Frame
  pub room : ℕ

-- The first frame of a list, where there is one.
abbrev pub first : List Frame → Option Frame
first [] = None
first (f ∷ fs) = Some f

-- How many sets a board keeps. A plain board keeps one, which stays empty.
abbrev pub set_count : Shape → ℕ
set_count Plain = 1
set_count (Cached sets ways) = sets

-- How many frames a set may have.
abbrev pub way_count : Shape → ℕ
way_count Plain = 0
way_count (Cached sets ways) = ways

-- Whether a frame is in the set of this number.
abbrev pub is_of_set : ℕ → ℕ → Frame → Bool
is_of_set sets number f = f.line % sets == number

-- The frames of all sets, one set after another.
abbrev pub all_in : List LineSet → List Frame
all_in [] = []
all_in (s ∷ rest) = s.frames ++ all_in rest

-- Whether a frame has this fill number.
abbrev pub has_fill : ℕ → Frame → Bool
has_fill fill f = f.fill == fill

-- The frames in order of fill: those with the first fill number, those with the next, and so on for
-- this many numbers.
abbrev pub in_order : ℕ → ℕ → List Frame → List Frame
in_order fill zero frames = []
in_order fill (suc n) frames = filter (has_fill fill) frames ++ in_order (suc fill) n frames

-- A set has those frames of a board that belong to it, and room for its ways.
pub record SetIsKept (sets number ways : ℕ) (frames : List Frame) (set : LineSet) : Type 0 where
  pub own : set.frames ≡ filter (is_of_set sets number) frames
  pub wide : ways ≤ set.room

-- Each set of a board has those of its frames that belong to it.
pub record SetsAreKept (ways : ℕ) (frames : List Frame) (sets : List LineSet) : Type 0 where
  pub each :
      (number : ℕ) (set : LineSet) → slice_get sets number ≡ Some set
      → SetIsKept (length sets) number ways frames set

-- Each set is empty and has room for this many frames.
abbrev pub AllEmpty : ℕ → List LineSet → Type 0
AllEmpty ways [] = Unit {0}
AllEmpty ways (s ∷ rest) = ((s.frames ≡ []) × (ways ≤ s.room)) × AllEmpty ways rest
