-- A pool of frames, each of which is free or out.
use Rattle.std.specs.Prelude.{◌≡◌, ℕ, ◌+◌, ◌<◌, Bool, true, false, cond, List, [], ◌∷◌, length, replicate, slice_index_or, slice_set}

-- A pool: for each frame whether it is out, and its four words. Frames are numbered from 0.
pub record Pool : Type 0 where
  pub out : List Bool
  pub words : List (List ℕ)

-- The words of a new frame.
abbrev pub no_words : List ℕ
no_words = 0 ∷ 0 ∷ 0 ∷ 0 ∷ []

-- A pool of so many frames, all free.
abbrev pub all_free : ℕ → Pool
all_free frames = record { out = replicate frames false; words = replicate frames no_words }

-- A frame is out: it is one of the pool, and it is not free.
pub record IsOut (pool : Pool) (frame : ℕ) : Type 0 where
  pub inside : frame < length pool.out
  pub taken : slice_index_or pool.out frame false ≡ true

-- A frame is free: it is one of the pool, and it is not out.
pub record IsFree (pool : Pool) (frame : ℕ) : Type 0 where
  pub inside : frame < length pool.out
  pub left : slice_index_or pool.out frame false ≡ false

-- Every frame of a pool is out.
abbrev pub AllOut : Pool → Type 0
AllOut pool = (frame : ℕ) → frame < length pool.out → IsOut pool frame

-- How many frames of a list are out.
abbrev pub count_out : List Bool → ℕ
count_out [] = 0
count_out (b ∷ rest) = cond b 1 0 + count_out rest

-- The words of a frame.
abbrev pub words_of : Pool → ℕ → List ℕ
words_of pool frame = slice_index_or pool.words frame no_words

-- The pool with a frame taken, or given back.
abbrev pub with_out : Pool → ℕ → Bool → Pool
with_out pool frame out = record { out = slice_set pool.out frame out; words = pool.words }

-- The pool with other words in a frame.
abbrev pub with_words : Pool → ℕ → List ℕ → Pool
with_words pool frame words = record { out = pool.out; words = slice_set pool.words frame words }
