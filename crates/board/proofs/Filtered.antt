-- The frames of a board that pass a test, as a line's frame gets a state.
use Rattle.std.proofs.Common.{◌≡◌, ℕ, ◌+◌, ◌≤◌, Bool, true, false, cond, List, [], ◌∷◌, ◌++◌, refl, ◌∙◌, arith, Option, Some}
use Rattle.std.specs.Prelude.{filter, find}
use Rattle.std.proofs.lemmas.List.Elements.{filter_map-append}
use Rattle.moesi_state.specs.declared.State.{State}
use Rattle.moesi_state.specs.States.{holds}
use Rattle.bus_model.specs.Places.{count_where}
use Rattle.board.specs.declared.frame.Frame.{Frame}
use Rattle.board.specs.Frames.{is_line, frame_as, frames_with, FillsBelow}
use Rattle.board.proofs.FrameFacts.{again, left}

-- A test does not see the state of a frame.
abbrev pub Blind : (Frame → Bool) → Type 0
Blind p = (f : Frame) (state : State) → p (again f state) ≡ p f

filter-left :
    (p : Frame → Bool) (here held b : Bool) (f : Frame) (state : State) (rest rest' : List Frame) → Blind p → p f ≡ b
    → filter p rest ≡ rest'
    → filter p (left here held f state rest) ≡ cond b (left here held f state rest') rest'
filter-left p true true true f state rest rest' blind e h = rw (blind f state, e, h) refl
filter-left p true true false f state rest rest' blind e h = rw (blind f state, e, h) refl
filter-left p true false true f state rest rest' blind e h = h
filter-left p true false false f state rest rest' blind e h = h
filter-left p false held true f state rest rest' blind e h = rw (e, h) refl
filter-left p false held false f state rest rest' blind e h = rw (e, h) refl

with-cond : (b : Bool) (f : Frame) (fs : List Frame) (line : ℕ) (state : State)
    → cond b (left (is_line line f) (holds state) f state (frames_with fs line state)) (frames_with fs line state)
    ≡ frames_with (cond b (f ∷ fs) fs) line state
with-cond true f fs line state = refl
with-cond false f fs line state = refl

-- Giving a state and then testing is testing and then giving a state.
pub filter-with :
    (p : Frame → Bool) (fs : List Frame) (line : ℕ) (state : State) → Blind p
    → filter p (frames_with fs line state) ≡ frames_with (filter p fs) line state
filter-with p [] line state blind = refl
filter-with p (f ∷ fs) line state blind =
    filter-left p (is_line line f) (holds state) (p f) f state _ _ blind refl (filter-with p fs line state blind)
    ∙ with-cond (p f) f (filter p fs) line state

pub with-append :
    (xs ys : List Frame) (line : ℕ) (state : State)
    → frames_with (xs ++ ys) line state ≡ frames_with xs line state ++ frames_with ys line state
with-append xs ys line state = filter_map-append (frame_as line state) xs ys

-- Where a frame that passes one test passes another, it is found among those that pass the other.
find-cond :
    (p : Frame → Bool) (b c : Bool) (f : Frame) (fs : List Frame) (o : Option Frame) → p f ≡ b → (b ≡ true → c ≡ true)
    → find p fs ≡ o
    → find p (cond c (f ∷ fs) fs) ≡ cond b (Some f) o
find-cond p true true f fs o e h k = rw e refl
find-cond p true false f fs o e h k = let n = h refl in cc
find-cond p false true f fs o e h k = rw (e, k) refl
find-cond p false false f fs o e h k = k

pub find-among :
    (p q : Frame → Bool) (fs : List Frame) → ((f : Frame) → p f ≡ true → q f ≡ true) → find p (filter q fs) ≡ find p fs
find-among p q [] h = refl
find-among p q (f ∷ fs) h = find-cond p (p f) (q f) f (filter q fs) _ refl (h f) (find-among p q fs h)

count-cond :
    (p : Frame → Bool) (c : Bool) (f : Frame) (fs : List Frame) (n : ℕ) → count_where p fs ≤ n
    → count_where p (cond c (f ∷ fs) fs) ≤ cond (p f) 1 0 + n
count-cond p true f fs n h = omega arith
count-cond p false f fs n h = omega arith

-- Among the frames that pass a test, no more pass another test than among all frames.
pub count-among : (p q : Frame → Bool) (fs : List Frame) → count_where p (filter q fs) ≤ count_where p fs
count-among p q [] = omega arith
count-among p q (f ∷ fs) = count-cond p (q f) f (filter q fs) _ (count-among p q fs)

pub count-append :
    (p : Frame → Bool) (xs ys : List Frame) → count_where p (xs ++ ys) ≡ count_where p xs + count_where p ys
count-append p [] ys = omega arith
count-append p (x ∷ xs) ys = let h = count-append p xs ys in omega arith

below-cond :
    (n : ℕ) (c : Bool) (f : Frame) (fs : List Frame) → FillsBelow n (f ∷ fs) → FillsBelow n (cond c (f ∷ fs) fs)
below-cond n true f fs h = h
below-cond n false f fs h = h.1

pub below-filter : (n : ℕ) (q : Frame → Bool) (fs : List Frame) → FillsBelow n fs → FillsBelow n (filter q fs)
below-filter n q [] h = tt
below-filter n q (f ∷ fs) h = below-cond n (q f) f (filter q fs) (h.0, below-filter n q fs h.1)

pub below-append : (n : ℕ) (xs ys : List Frame) → FillsBelow n xs → FillsBelow n ys → FillsBelow n (xs ++ ys)
below-append n [] ys h k = k
below-append n (x ∷ xs) ys h k = (h.0, below-append n xs ys h.1 k)
