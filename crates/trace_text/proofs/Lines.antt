-- A line is read exactly where it is the line of an event in range, and no line begins another.
use Rattle.std.proofs.Common.{◌≡◌, ◌≢◌, ℕ, zero, suc, ◌+◌, ◌<◌, ◌≤◌, Bool, true, false, eqb, List, [], ◌∷◌, ◌++◌, length, take, Option, Some, None, refl, sym, ap, ◌∙◌, subst, arith, append_assoc, length-append}
use Rattle.std.specs.Prelude.{IfSome, IfNone}
use Rattle.std.specs.List.{join_with_byte, position_or_len, before_first}
use Rattle.std.proofs.lemmas.List.{nil_from_length}
use Rattle.std.proofs.lemmas.List.Splits.{join_with_byte-slice_split}
use Rattle.fb_text.specs.Lines.{is_line_feed}
use Rattle.fb_text.specs.Places.{Words}
use Rattle.journal.specs.declared.event.Event.{Event}
use Rattle.trace_text.specs.Spelling.{event_words, text_of_event, line_of_event}
use Rattle.trace_text.specs.Ranges.{InRange}
use Rattle.trace_text.specs.Reading.{pieces, event_at}
use Rattle.trace_text.proofs.Binds.{some_same}
use Rattle.trace_text.proofs.Bytes.{NoneOf, NoneIn, split_joined, joined_none, ink_in}
use Rattle.trace_text.proofs.Ink.{words_ink, some_words}
use Rattle.trace_text.proofs.Again.{event_again}
use Rattle.trace_text.proofs.Events.{event_is}

split_words : (ws : Words) → 0 < length ws → NoneIn 32 ws → pieces 32 (join_with_byte 32 ws) ≡ ws
split_words [] some none = absurd (omega arith)
split_words (w ∷ ws) some none = split_joined 32 w ws none

-- The line of an event in range is read as this event.
pub line_again : (line : List ℕ) (e : Event) → InRange e → line ≡ text_of_event e → event_at (pieces 32 line) ≡ Some e
unfolding text_of_event
line_again line e h is =
    ap (λ (l : List ℕ). event_at (pieces 32 l)) is
    ∙ (ap event_at (split_words (event_words e) (some_words e)
    (ink_in 32 (event_words e) (omega arith) (words_ink e h))) ∙ event_again e h)

-- What is read is an event in range, whose line it is.
pub line_is : (line : List ℕ) (e : Event) → event_at (pieces 32 line) ≡ Some e → InRange e × (line ≡ text_of_event e)
unfolding text_of_event
line_is line e h =
    let s = event_is (pieces 32 line) e h in
    (s.in_range, sym (join_with_byte-slice_split 32 line) ∙ ap (join_with_byte 32) s.words)

-- ---- the line feed

no_feed : (e : Event) → InRange e → NoneOf 10 (text_of_event e)
unfolding text_of_event
no_feed e h = joined_none 10 32 (event_words e) refl (ink_in 10 (event_words e) (omega arith) (words_ink e h))

position_first : (x rest : List ℕ) → NoneOf 10 x → position_or_len is_line_feed (x ++ 10 ∷ rest) ≡ length x
position_first [] rest none = refl
position_first (b ∷ x) rest none = rw none.0 (omega (arith, position_first x rest none.1))

take_front : (x y : List ℕ) → take (length x) (x ++ y) ≡ x
take_front [] y = refl
take_front (b ∷ x) y = ap (λ (v : List ℕ). b ∷ v) (take_front x y)

first_line : (x rest : List ℕ) → NoneOf 10 x → before_first is_line_feed ((x ++ 10 ∷ []) ++ rest) ≡ x
first_line x rest none =
    ap (before_first is_line_feed) (append_assoc x (10 ∷ []) rest)
    ∙ (ap (λ (n : ℕ). take n (x ++ 10 ∷ rest)) (position_first x rest none) ∙ take_front x (10 ∷ rest))

-- A written line is the first line of what it begins.
pub first_is :
    (e : Event) (rest : List ℕ) → InRange e → before_first is_line_feed (line_of_event e ++ rest) ≡ text_of_event e
first_is e rest h = first_line (text_of_event e) rest (no_feed e h)

ends_here : (x rest : List ℕ) → x ≡ x ++ rest → rest ≡ []
ends_here x rest e =
    nil_from_length rest (let l = ap (λ (z : List ℕ). length z) e in let m = length-append x rest in omega arith)

-- No line begins another.
pub begins_none :
    (e f : Event) (rest : List ℕ) → InRange e → InRange f → line_of_event f ≡ line_of_event e ++ rest
    → (f ≡ e) × (rest ≡ [])
begins_none e f rest h k is =
    let nothing : line_of_event f ++ [] ≡ line_of_event f = Rattle.std.proofs.Common.append-nil (line_of_event f) in
    let texts : text_of_event f ≡ text_of_event e =
    sym (first_is f [] k) ∙ (ap (before_first is_line_feed) (nothing ∙ is) ∙ first_is e rest h) in
    let same : f ≡ e =
    some_same f e (sym (line_again (text_of_event f) f k refl) ∙ line_again (text_of_event f) e h texts) in
    (same, ends_here (line_of_event e) rest (ap line_of_event (sym same) ∙ is))

-- ---- what was read

pub some_is :
    (line : List ℕ) (r : Option Event) → r ≡ event_at (pieces 32 line)
    → IfSome r (λ e. InRange e × (line ≡ text_of_event e))
some_is line None h = tt
some_is line (Some e) h = line_is line e (sym h)

pub none_is :
    (line : List ℕ) (r : Option Event) → r ≡ event_at (pieces 32 line)
    → IfNone r ((e : Event) → InRange e → line ≢ text_of_event e)
none_is line None h =
    λ e in_range is. let both : ◌≡◌ {A = Option Event} None (Some e) = h ∙ line_again line e in_range is in absurd cc
none_is line (Some e) h = tt
