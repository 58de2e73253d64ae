-- The frames of boards in the pool that all boards share.
use Rattle.std.specs.Prelude.{◌≡◌, ℕ, ◌≤◌, Bool, false, ◌==◌, cond, List, [], ◌∷◌, All, AllPairs, Contains, length, map, slice_index_or, if◌then◌else◌}
use Rattle.moesi_state.specs.declared.State.{State}
use Rattle.moesi_state.specs.States.{holds}
use Rattle.bus_model.specs.Places.{count_where}
use Rattle.bus_model.specs.Configuration.{Row}
use Rattle.line_pool.specs.Pools.{Pool, IsOut, words_of, with_words, with_out, count_out}
use Rattle.board.specs.declared.frame.Frame.{Frame}
use Rattle.board.specs.Frames.{is_line}

-- Whether a frame has this number.
abbrev pub has_number : ℕ → Frame → Bool
has_number number f = f.number == number

-- How many frames of a list have this number.
abbrev pub number_count : ℕ → List Frame → ℕ
number_count number frames = count_where (has_number number) frames

-- 1 where the frame of this number is out, and otherwise 0.
abbrev pub times_out : Pool → ℕ → ℕ
times_out pool number = cond (slice_index_or pool.out number false) 1 0

-- The frames of a list are out, and no two of them are the same.
pub record AreOut (pool : Pool) (frames : List Frame) : Type 0 where
  pub once : (number : ℕ) → number_count number frames ≤ times_out pool number

-- The rows of a rack and the pool of its frames: each row has a frame that is out, no two rows have
-- one frame, each frame that is out is the frame of a row, and the words of a row are the pool's
-- words of its frame.
pub record RowsHaveFrames (pool : Pool) (rows : List Row) : Type 0 where
  pub numbers : List ℕ
  pub words : map (λ (row : Row). row.words) rows ≡ map (words_of pool) numbers
  pub out : All (IsOut pool) numbers
  pub apart : AllPairs (λ a b. a ≡ b → ⊥) numbers
  pub used : (number : ℕ) → IsOut pool number → Contains numbers number

-- The pool fits the frames of all boards, and every call keeps this: a frame that is out is the
-- frame of exactly one row, a frame that is free is that of none, and there are as many frames as
-- all sets have ways.
pub record FramesHold (pool : Pool) (frames : List Frame) (ways : ℕ) : Type 0 where
  pub once : (number : ℕ) → number_count number frames ≡ times_out pool number
  pub counted : count_out pool.out ≡ length frames
  pub enough : length pool.out ≡ ways
  pub lined : length pool.words ≡ length pool.out

-- The pool after the words of a line's frames changed.
abbrev pub with_changed : ℕ → (List ℕ → List ℕ) → List Frame → Pool → Pool
with_changed line words [] pool = pool
with_changed line words (f ∷ fs) pool =
    with_changed line words fs
    (if is_line line f then with_words pool f.number (words (words_of pool f.number)) else pool)

-- The pool after a line's frames came back.
abbrev pub with_given : ℕ → List Frame → Pool → Pool
with_given line [] pool = pool
with_given line (f ∷ fs) pool =
    with_given line fs (if is_line line f then with_out pool f.number false else pool)

-- The pool after a line's frames got a state and changed words: they stay out with the words, or in
-- the state I they come back.
abbrev pub pool_after : List Frame → ℕ → State → (List ℕ → List ℕ) → Pool → Pool
pool_after frames line state words pool =
    if holds state then with_changed line words frames pool else with_given line frames pool
