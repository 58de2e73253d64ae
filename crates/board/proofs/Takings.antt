-- What a pool is after the frames of a line got other words or came back.
use Rattle.std.proofs.Common.{◌≡◌, ℕ, zero, suc, ◌+◌, ◌<◌, ◌≤◌, Bool, true, false, cond, List, [], ◌∷◌, length, get_or, drop, drop-cons, refl, ap, sym, ◌∙◌, arith, ◌⊎◌, inl, inr}
use Rattle.std.specs.Prelude.{filter, slice_index_or, slice_set, ◌==◌}
use Rattle.std.proofs.lemmas.Bool.Decides.{nat_tests}
use Rattle.std.proofs.lemmas.List.{get_or-set_same, get_or-set_other}
use Rattle.std.proofs.Math.ListN.{length-set}
use Rattle.moesi_state.specs.declared.State.{State}
use Rattle.moesi_state.specs.States.{holds}
use Rattle.line_pool.specs.Pools.{Pool, IsOut, words_of, no_words, with_words, with_out, count_out}
use Rattle.line_pool.proofs.Counts.{count_given}
use Rattle.board.specs.declared.frame.Frame.{Frame}
use Rattle.board.specs.Frames.{is_line, frames_with}
use Rattle.board.specs.Pooled.{AreOut, has_number, number_count, times_out, with_changed, with_given, pool_after}
use Rattle.board.proofs.FrameFacts.{left}
use Rattle.board.proofs.Filtered.{count-among}

pub bit : (b : Bool) → (b ≡ true) ⊎ (b ≡ false)
bit true = inl refl
bit false = inr refl

pub same-or-other : (n m : ℕ) → (n ≡ m) ⊎ (n ≡ m → ⊥)
same-or-other n m =
    elim (bit (n == m)) [ inl e ↦ inl (grind (arith, nat_tests)) | inr e ↦ inr (λ z. grind (arith, nat_tests)) ]

in-list : (xs : List Bool) (n : ℕ) → slice_index_or xs n false ≡ true → n < length xs
in-list [] n e = cc
in-list (x ∷ xs) zero e = omega arith
in-list (x ∷ xs) (suc n) e = let h = in-list xs n e in omega arith

-- A frame with a count is out.
pub counted-out : (pool : Pool) (n : ℕ) → 1 ≤ times_out pool n → IsOut pool n
counted-out pool n h = elim (bit (slice_index_or pool.out n false)) [
  | inl e ↦ record { inside = in-list pool.out n e; taken = e }
  | inr e ↦ (let k = rw e at h in absurd (omega arith))
]

abbrev tally : Bool → ℕ
tally b = cond b 1 0

number-is : (n m : ℕ) → n ≡ m → tally (m == n) ≡ 1
number-is n m e = let t : (m == n) ≡ true = grind (arith, nat_tests) in rw t refl

number-not : (n m : ℕ) → (n ≡ m → ⊥) → tally (m == n) ≡ 0
number-not n m h = let t : (m == n) ≡ false = grind (arith, nat_tests) in rw t refl

-- The count of a frame's own number in a list with the frame, and that of another number.
pub count-own : (f : Frame) (fs : List Frame) (n : ℕ) → n ≡ f.number → number_count n (f ∷ fs) ≡ 1 + number_count n fs
count-own f fs n e = ap (λ (k : ℕ). k + number_count n fs) (number-is n f.number e)

pub count-past :
    (f : Frame) (fs : List Frame) (n : ℕ) → (n ≡ f.number → ⊥) → number_count n (f ∷ fs) ≡ number_count n fs
count-past f fs n h = ap (λ (k : ℕ). k + number_count n fs) (number-not n f.number h) ∙ (omega arith)

pub head-out : (pool : Pool) (f : Frame) (fs : List Frame) → AreOut pool (f ∷ fs) → IsOut pool f.number
head-out pool f fs h =
    let o = h.once f.number in let e = count-own f fs f.number refl in counted-out pool f.number (omega arith)

pub tail-out : (pool : Pool) (f : Frame) (fs : List Frame) → AreOut pool (f ∷ fs) → AreOut pool fs
tail-out pool f fs h = record { once = λ n. let o = h.once n in omega arith }

pub out-times : (pool : Pool) (n : ℕ) → IsOut pool n → times_out pool n ≡ 1
out-times pool n o = rw o.taken refl

pub read-set :
    (words : List (List ℕ)) (n : ℕ) (w : List ℕ) → n < length words
    → slice_index_or (slice_set words n w) n no_words ≡ w
read-set words n w h = get_or-set_same words n w no_words h

pub read-other :
    (words : List (List ℕ)) (n m : ℕ) (w : List ℕ) → (m ≡ n → ⊥)
    → slice_index_or (slice_set words n w) m no_words ≡ slice_index_or words m no_words
read-other words n m w h = get_or-set_other words n m w no_words h

pub times-given : (pool : Pool) (n m : ℕ) → m < length pool.out → n ≡ m → times_out (with_out pool m false) n ≡ 0
times-given pool n m l e =
    let k : slice_index_or (slice_set pool.out m false) m false ≡ false = get_or-set_same pool.out m false false l in
    rw (e, k) refl

pub times-taken : (pool : Pool) (n m : ℕ) → m < length pool.out → n ≡ m → times_out (with_out pool m true) n ≡ 1
times-taken pool n m l e =
    let k : slice_index_or (slice_set pool.out m true) m false ≡ true = get_or-set_same pool.out m true false l in
    rw (e, k) refl

pub times-kept : (pool : Pool) (n m : ℕ) (b : Bool) → (n ≡ m → ⊥) → times_out (with_out pool m b) n ≡ times_out pool n
times-kept pool n m b h =
    let k : slice_index_or (slice_set pool.out m b) n false ≡ slice_index_or pool.out n false =
    get_or-set_other pool.out m n b false h in
    rw k refl

-- Once one frame of a list came back, the others are still out.
given-once :
    (pool : Pool) (f : Frame) (fs : List Frame) (n : ℕ) → AreOut pool (f ∷ fs) → (n ≡ f.number) ⊎ (n ≡ f.number → ⊥)
    → number_count n fs ≤ times_out (with_out pool f.number false) n
given-once pool f fs n h (inl e) =
    let o = head-out pool f fs h in
    let k = h.once n in
    let c = count-own f fs n e in
    let t : times_out pool n ≡ 1 = rw e (out-times pool f.number o) in
    let z = times-given pool n f.number o.inside e in
    omega arith
given-once pool f fs n h (inr e) =
    let k = h.once n in
    let c = count-past f fs n e in
    let z = times-kept pool n f.number false e in
    omega arith

pub given-out :
    (pool : Pool) (f : Frame) (fs : List Frame) → AreOut pool (f ∷ fs) → AreOut (with_out pool f.number false) fs
given-out pool f fs h = record { once = λ n. given-once pool f fs n h (same-or-other n f.number) }

pub among-out : (pool : Pool) (q : Frame → Bool) (fs : List Frame) → AreOut pool fs → AreOut pool (filter q fs)
among-out pool q fs h =
    record { once = λ n. let k = h.once n in let c = count-among (has_number n) q fs in omega arith }

-- How a pool changes when words change.

-- A pool with other words in a frame, or as it was.
abbrev pub worded : Bool → (List ℕ → List ℕ) → Frame → Pool → Pool
worded b words f pool = cond b (with_words pool f.number (words (words_of pool f.number))) pool

changed-out-by : (line : ℕ) (words : List ℕ → List ℕ) (f : Frame) (fs : List Frame) (pool : Pool) (b : Bool)
    → ((p : Pool) → (with_changed line words fs p).out ≡ p.out)
    → (with_changed line words fs (worded b words f pool)).out ≡ pool.out
changed-out-by line words f fs pool true rest = rest (worded true words f pool)
changed-out-by line words f fs pool false rest = rest pool

pub changed-out :
    (line : ℕ) (words : List ℕ → List ℕ) (fs : List Frame) (pool : Pool)
    → (with_changed line words fs pool).out ≡ pool.out
changed-out line words [] pool = refl
changed-out line words (f ∷ fs) pool = changed-out-by line words f fs pool (is_line line f) (changed-out line words fs)

changed-long-by : (line : ℕ) (words : List ℕ → List ℕ) (f : Frame) (fs : List Frame) (pool : Pool) (b : Bool)
    → ((p : Pool) → length (with_changed line words fs p).words ≡ length p.words)
    → length (with_changed line words fs (worded b words f pool)).words ≡ length pool.words
changed-long-by line words f fs pool true rest =
    rest (worded true words f pool) ∙ length-set pool.words f.number (words (words_of pool f.number))
changed-long-by line words f fs pool false rest = rest pool

pub changed-long :
    (line : ℕ) (words : List ℕ → List ℕ) (fs : List Frame) (pool : Pool)
    → length (with_changed line words fs pool).words ≡ length pool.words
changed-long line words [] pool = refl
changed-long line words (f ∷ fs) pool =
    changed-long-by line words f fs pool (is_line line f) (changed-long line words fs)

changed-other-by :
    (line : ℕ) (words : List ℕ → List ℕ) (f : Frame) (fs : List Frame) (pool : Pool) (n : ℕ) (b : Bool)
    → (n ≡ f.number → ⊥)
    → ((p : Pool) → words_of (with_changed line words fs p) n ≡ words_of p n)
    → words_of (with_changed line words fs (worded b words f pool)) n ≡ words_of pool n
changed-other-by line words f fs pool n true h rest =
    rest (worded true words f pool) ∙ read-other pool.words f.number n _ h
changed-other-by line words f fs pool n false h rest = rest pool

-- The words of a frame that is not in the list stay.
pub changed-other : (line : ℕ) (words : List ℕ → List ℕ) (fs : List Frame) (pool : Pool) (n : ℕ) → number_count n fs ≡ 0
    → words_of (with_changed line words fs pool) n ≡ words_of pool n
changed-other line words [] pool n h = refl
changed-other line words (f ∷ fs) pool n h =
    changed-other-by line words f fs pool n (is_line line f) (λ e. let c = count-own f fs n e in omega arith)
    (λ p. changed-other line words fs p n (omega arith))

-- How a pool changes when frames come back.

abbrev freed : Bool → Frame → Pool → Pool
freed b f pool = cond b (with_out pool f.number false) pool

given-words-by :
    (line : ℕ) (f : Frame) (fs : List Frame) (pool : Pool) (b : Bool)
    → ((p : Pool) → (with_given line fs p).words ≡ p.words)
    → (with_given line fs (freed b f pool)).words ≡ pool.words
given-words-by line f fs pool true rest = rest (freed true f pool)
given-words-by line f fs pool false rest = rest pool

pub given-words : (line : ℕ) (fs : List Frame) (pool : Pool) → (with_given line fs pool).words ≡ pool.words
given-words line [] pool = refl
given-words line (f ∷ fs) pool = given-words-by line f fs pool (is_line line f) (given-words line fs)

given-long-by :
    (line : ℕ) (f : Frame) (fs : List Frame) (pool : Pool) (b : Bool)
    → ((p : Pool) → length (with_given line fs p).out ≡ length p.out)
    → length (with_given line fs (freed b f pool)).out ≡ length pool.out
given-long-by line f fs pool true rest = rest (freed true f pool) ∙ length-set pool.out f.number false
given-long-by line f fs pool false rest = rest pool

pub given-long : (line : ℕ) (fs : List Frame) (pool : Pool) → length (with_given line fs pool).out ≡ length pool.out
given-long line [] pool = refl
given-long line (f ∷ fs) pool = given-long-by line f fs pool (is_line line f) (given-long line fs)

-- A frame comes back exactly where it leaves the list.
given-times-by :
    (line : ℕ) (f : Frame) (fs : List Frame) (state : State) (pool : Pool) (n : ℕ) (b : Bool) → holds state ≡ false
    → AreOut pool (f ∷ fs)
    → (n ≡ f.number) ⊎ (n ≡ f.number → ⊥)
    → ((p : Pool) → AreOut p fs
    → times_out (with_given line fs p) n + number_count n fs
    ≡ times_out p n + number_count n (frames_with fs line state))
    → times_out (with_given line fs (freed b f pool)) n + number_count n (f ∷ fs)
    ≡ times_out pool n + number_count n (left b false f state (frames_with fs line state))
given-times-by line f fs state pool n true e h (inl is) rest =
    let r = rest (freed true f pool) (given-out pool f fs h) in
    let o = head-out pool f fs h in
    let t : times_out pool n ≡ 1 = rw is (out-times pool f.number o) in
    let z = times-given pool n f.number o.inside is in
    let c = count-own f fs n is in
    omega arith
given-times-by line f fs state pool n true e h (inr not) rest =
    let r = rest (freed true f pool) (given-out pool f fs h) in
    let z = times-kept pool n f.number false not in
    let c = count-past f fs n not in
    omega arith
given-times-by line f fs state pool n false e h is rest =
    let r = rest pool (tail-out pool f fs h) in
    omega arith

pub given-times :
    (line : ℕ) (fs : List Frame) (state : State) (pool : Pool) (n : ℕ) → holds state ≡ false → AreOut pool fs
    → times_out (with_given line fs pool) n + number_count n fs
    ≡ times_out pool n + number_count n (frames_with fs line state)
given-times line [] state pool n e h = refl
given-times line (f ∷ fs) state pool n e h =
    rw e (given-times-by line f fs state pool n (is_line line f) e h (same-or-other n f.number)
    (λ p g. given-times line fs state p n e g))

given-count-by :
    (line : ℕ) (f : Frame) (fs : List Frame) (state : State) (pool : Pool) (b : Bool) → AreOut pool (f ∷ fs)
    → ((p : Pool) → AreOut p fs
    → count_out (with_given line fs p).out + length fs ≡ count_out p.out + length (frames_with fs line state))
    → count_out (with_given line fs (freed b f pool)).out + length (f ∷ fs)
    ≡ count_out pool.out + length (left b false f state (frames_with fs line state))
given-count-by line f fs state pool true h rest =
    let r = rest (freed true f pool) (given-out pool f fs h) in
    let o = head-out pool f fs h in
    let c = count_given pool.out f.number o.inside o.taken in
    omega arith
given-count-by line f fs state pool false h rest =
    let r = rest pool (tail-out pool f fs h) in
    omega arith

pub given-count : (line : ℕ) (fs : List Frame) (state : State) (pool : Pool) → holds state ≡ false → AreOut pool fs
    → count_out (with_given line fs pool).out + length fs ≡ count_out pool.out + length (frames_with fs line state)
given-count line [] state pool e h = refl
given-count line (f ∷ fs) state pool e h =
    rw e (given-count-by line f fs state pool (is_line line f) h (λ p g. given-count line fs state p e g))

held-count-by :
    (here : Bool) (f : Frame) (fs : List Frame) (state : State) (n : ℕ) (rest : List Frame)
    → number_count n rest ≡ number_count n fs
    → number_count n (left here true f state rest) ≡ number_count n (f ∷ fs)
held-count-by true f fs state n rest h = omega arith
held-count-by false f fs state n rest h = omega arith

-- In a state that holds, the frames stay.
pub held-count :
    (line : ℕ) (fs : List Frame) (state : State) (n : ℕ) → holds state ≡ true
    → number_count n (frames_with fs line state) ≡ number_count n fs
held-count line [] state n e = refl
held-count line (f ∷ fs) state n e = rw e (held-count-by (is_line line f) f fs state n _ (held-count line fs state n e))

held-long-by :
    (here : Bool) (f : Frame) (fs : List Frame) (state : State) (rest : List Frame) → length rest ≡ length fs
    → length (left here true f state rest) ≡ length (f ∷ fs)
held-long-by true f fs state rest h = omega arith
held-long-by false f fs state rest h = omega arith

pub held-long :
    (line : ℕ) (fs : List Frame) (state : State) → holds state ≡ true → length (frames_with fs line state) ≡ length fs
held-long line [] state e = refl
held-long line (f ∷ fs) state e = rw e (held-long-by (is_line line f) f fs state _ (held-long line fs state e))

-- A change to the frames of one line touches only frames of its set.

cond-changed :
    (b : Bool) (line : ℕ) (words : List ℕ → List ℕ) (f : Frame) (fs : List Frame) (pool : Pool)
    → (is_line line f ≡ true → b ≡ true)
    → with_changed line words (cond b (f ∷ fs) fs) pool
    ≡ with_changed line words fs (worded (is_line line f) words f pool)
cond-changed true line words f fs pool h = refl
cond-changed false line words f fs pool h =
    elim (bit (is_line line f)) [
      | inl e ↦ (let k = h e in cc)
      | inr e ↦ ap (λ (b : Bool). with_changed line words fs (worded b words f pool)) (sym e)
    ]

pub among-changed :
    (q : Frame → Bool) (line : ℕ) (words : List ℕ → List ℕ) (fs : List Frame) (pool : Pool)
    → ((f : Frame) → is_line line f ≡ true → q f ≡ true)
    → with_changed line words (filter q fs) pool ≡ with_changed line words fs pool
among-changed q line words [] pool h = refl
among-changed q line words (f ∷ fs) pool h =
    cond-changed (q f) line words f (filter q fs) pool (h f)
    ∙ among-changed q line words fs (worded (is_line line f) words f pool) h

cond-given : (b : Bool) (line : ℕ) (f : Frame) (fs : List Frame) (pool : Pool) → (is_line line f ≡ true → b ≡ true)
    → with_given line (cond b (f ∷ fs) fs) pool ≡ with_given line fs (freed (is_line line f) f pool)
cond-given true line f fs pool h = refl
cond-given false line f fs pool h =
    elim (bit (is_line line f)) [
      | inl e ↦ (let k = h e in cc)
      | inr e ↦ ap (λ (b : Bool). with_given line fs (freed b f pool)) (sym e)
    ]

pub among-given :
    (q : Frame → Bool) (line : ℕ) (fs : List Frame) (pool : Pool) → ((f : Frame) → is_line line f ≡ true → q f ≡ true)
    → with_given line (filter q fs) pool ≡ with_given line fs pool
among-given q line [] pool h = refl
among-given q line (f ∷ fs) pool h =
    cond-given (q f) line f (filter q fs) pool (h f) ∙ among-given q line fs (freed (is_line line f) f pool) h

pub among-after :
    (q : Frame → Bool) (fs : List Frame) (line : ℕ) (state : State) (words : List ℕ → List ℕ) (pool : Pool)
    → ((f : Frame) → is_line line f ≡ true → q f ≡ true)
    → pool_after (filter q fs) line state words pool ≡ pool_after fs line state words pool
among-after q fs line state words pool h = rw (among-changed q line words fs pool h, among-given q line fs pool h) refl

-- Each frame of a list whose frames are out is out.
listed : (fs : List Frame) (i : ℕ) (d : Frame) → i < length fs → 1 ≤ number_count (get_or fs i d).number fs
listed [] i d h = absurd (omega arith)
listed (f ∷ fs) zero d h = let c = count-own f fs f.number refl in omega arith
listed (f ∷ fs) (suc i) d h = let r = listed fs i d (omega arith) in omega arith

pub at-out :
    (pool : Pool) (fs : List Frame) (i : ℕ) (d : Frame) → i < length fs → AreOut pool fs
    → IsOut pool (get_or fs i d).number
at-out pool fs i d h out =
    counted-out pool (get_or fs i d).number
    (let o = out.once (get_or fs i d).number in let l = listed fs i d h in omega arith)

pub drop-head :
    (pool : Pool) (fs : List Frame) (i : ℕ) (d : Frame) → i < length fs → AreOut pool (drop i fs)
    → IsOut pool (get_or fs i d).number
drop-head pool fs i d h out = head-out pool (get_or fs i d) (drop (suc i) fs) (rw (drop-cons fs i d h) at out)
