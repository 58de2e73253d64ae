-- A text comes to what its end leaves.
use Rattle.std.proofs.Common.{◌≡◌, ℕ, ◌<◌, ◌+◌, Bool, true, false, List, [], ◌∷◌, Option, Some, None, length, refl, arith}
use Rattle.std.specs.Prelude.{Result, Err, nat_le, if◌then◌else◌, ◌&&◌}
use Rattle.std.specs.List.{AllByRecursion}
use Rattle.journal.specs.declared.event.Event.{Event}
use Rattle.replayer.specs.declared.fault.ReplayFault.{ReplayFault}
use Rattle.replayer.specs.declared.fault.ReplayFault.TheVariants.{Spelling}
use Rattle.replayer.specs.Lines.{Line, lines_of, is_end_word, before_end, event_in}
use Rattle.replayer.specs.Traces.{Place, reading, ended, refused, by_step, by_event, outcome, replayed, at_open, at_closed, follow, left_by, ending, longest}
use Rattle.replayer.proofs.Cutting.{IsLine, are_lines}

open_ends :
    {M : Type 0} (close : M → Result M ReplayFault) (m : M) (number : ℕ) (bytes : List ℕ) → 0 < length bytes
    → ending close (at_open m number bytes) ≡ Err (Spelling number)
open_ends close m number [] some = absurd (omega arith)
open_ends close m number (b ∷ bs) some = go (nat_le (length (b ∷ bs)) longest)
  where
    go :
        (fits : Bool)
        → ending close (if fits then reading m number (b ∷ bs) else refused (Spelling number)) ≡ Err (Spelling number)
    go true = refl
    go false = refl

closed_ends :
    {M : Type 0} (step : M → Event → Option M) (close : M → Result M ReplayFault) (m : M) (number : ℕ) (bytes : List ℕ)
    (f : M → Place M) (g : M → Result M ReplayFault)
    → ((next : M) → ending close (f next) ≡ g next) → (o : Option Event)
    → ending close (by_event step m refused f number o) ≡ by_event step m Err g number o
closed_ends step close m number bytes f g same None = refl
closed_ends {M} step close m number bytes f g same (Some e) = by_next (step m e)
  where
    by_next : (o : Option M) → ending close (by_step refused f number o) ≡ by_step Err g number o
    by_next None = refl
    by_next (Some next) = same next

follow_ends :
    {M : Type 0} (step : M → Event → Option M) (close : M → Result M ReplayFault) (m : M) (number : ℕ) (ls : List Line)
    → AllByRecursion IsLine ls
    → ending close (follow step m number ls) ≡ outcome step close m number (before_end ls)
follow_ends step close m number [] are = refl
follow_ends {M} step close m number (l ∷ ls) are =
    go (λ next. follow_ends step close next (number + 1) ls are.1) l.closed refl
  where
    at :
        ((next : M)
        → ending close (follow step next (number + 1) ls) ≡ outcome step close next (number + 1) (before_end ls))
        → (b : Bool)
        → ending close (if b
        then ended m
        else by_event step m refused (λ next. follow step next (number + 1) ls) number (event_in l.bytes))
        ≡ outcome step close m number (if b then [] else record { bytes = l.bytes; closed = true } ∷ before_end ls)
    at more true = refl
    at more false =
        closed_ends step close m number l.bytes (λ next. follow step next (number + 1) ls)
        (λ next. outcome step close next (number + 1) (before_end ls)) more (event_in l.bytes)

    go :
        ((next : M)
        → ending close (follow step next (number + 1) ls) ≡ outcome step close next (number + 1) (before_end ls))
        → (closed : Bool) → l.closed ≡ closed
        → ending close (if closed
        then at_closed step m number l.bytes (λ next. follow step next (number + 1) ls)
        else at_open m number l.bytes)
        ≡ outcome step close m number
        (if closed && is_end_word l.bytes then [] else record { bytes = l.bytes; closed = closed } ∷ before_end ls)
    go more true is = at more (is_end_word l.bytes)
    go more false is = open_ends close m number l.bytes (are.0.some is)

-- What a text comes to is what its end leaves.
pub replayed_left :
    {M : Type 0} (step : M → Event → Option M) (close : M → Result M ReplayFault) (m : M) (text : List ℕ)
    → ending close (left_by step m text) ≡ replayed step close m text
replayed_left step close m text = follow_ends step close m 1 (lines_of text) (are_lines text)
