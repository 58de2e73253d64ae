-- A text that is read piece by piece leaves its reader where the whole text does.
use Rattle.std.proofs.Common.{◌≡◌, ℕ, ◌<◌, ◌+◌, Bool, true, false, List, [], ◌∷◌, ◌++◌, Option, Some, None, length, refl, ap, ◌∙◌}
use Rattle.std.specs.Prelude.{nat_le, if◌then◌else◌}
use Rattle.std.specs.List.{AllByRecursion}
use Rattle.std.proofs.lemmas.Bool.{leb-false}
use Rattle.journal.specs.declared.event.Event.{Event}
use Rattle.replayer.specs.declared.fault.ReplayFault.TheVariants.{Spelling}
use Rattle.replayer.specs.Lines.{Line, lines_of, is_end_word, event_in}
use Rattle.replayer.specs.Reader.{LacksFeed}
use Rattle.replayer.specs.Traces.{Place, reading, ended, refused, by_step, by_event, at_open, at_closed, follow, fed, left_by, longest}
use Rattle.replayer.proofs.Cutting.{IsLine, are_lines, joined, lines_joined, lines_prefixed}
use Rattle.replayer.proofs.Long.{long_front}

-- What follows a closed line is read from after it.
pub closed_fed :
    {M : Type 0} (step : M → Event → Option M) (m : M) (number : ℕ) (bytes piece : List ℕ) (f g : M → Place M)
    → ((next : M) → g next ≡ fed step (f next) piece)
    → at_closed step m number bytes g ≡ fed step (at_closed step m number bytes f) piece
closed_fed {M} step m number bytes piece f g same = at (is_end_word bytes)
  where
    by_next : (o : Option M) → by_step refused g number o ≡ fed step (by_step refused f number o) piece
    by_next None = refl
    by_next (Some next) = same next

    by : (o : Option Event) → by_event step m refused g number o ≡ fed step (by_event step m refused f number o) piece
    by None = refl
    by (Some e) = by_next (step m e)

    at :
        (b : Bool)
        → (if b then ended m else by_event step m refused g number (event_in bytes))
        ≡ fed step (if b then ended m else by_event step m refused f number (event_in bytes)) piece
    at true = refl
    at false = by (event_in bytes)

-- What follows an open line goes on with it.
pub open_fed : {M : Type 0} (step : M → Event → Option M) (m : M) (number : ℕ) (bytes piece : List ℕ) → LacksFeed bytes
    → follow step m number (lines_of (bytes ++ piece)) ≡ fed step (at_open m number bytes) piece
open_fed step m number bytes piece lacks = go (nat_le (length bytes) longest) refl
  where
    go :
        (b : Bool) → nat_le (length bytes) longest ≡ b
        → follow step m number (lines_of (bytes ++ piece))
        ≡ fed step (if b then reading m number bytes else refused (Spelling number)) piece
    go true is = refl
    go false is = let long : longest < length bytes = leb-false (length bytes) longest is in
        ap (follow step m number) (lines_prefixed bytes piece lacks)
        ∙ long_front step m number bytes (lines_of piece) long

follow_joined :
    {M : Type 0} (step : M → Event → Option M) (m : M) (number : ℕ) (ls : List Line) (piece : List ℕ)
    → AllByRecursion IsLine ls
    → follow step m number (joined ls piece) ≡ fed step (follow step m number ls) piece
follow_joined step m number [] piece are = refl
follow_joined {M} step m number (l ∷ ls) piece are =
    go (λ next. follow_joined step next (number + 1) ls piece are.1) l.closed
  where
    go :
        ((next : M)
        → follow step next (number + 1) (joined ls piece) ≡ fed step (follow step next (number + 1) ls) piece)
        → (closed : Bool)
        → follow step m number (if closed
        then record { bytes = l.bytes; closed = closed } ∷ joined ls piece
        else lines_of (l.bytes ++ piece))
        ≡ fed step (if closed
        then at_closed step m number l.bytes (λ next. follow step next (number + 1) ls)
        else at_open m number l.bytes) piece
    go more true =
        closed_fed step m number l.bytes piece (λ next. follow step next (number + 1) ls)
        (λ next. follow step next (number + 1) (joined ls piece)) more
    go more false = open_fed step m number l.bytes piece are.0.lacks

-- A piece leaves the reader of a text where the text with the piece does.
pub left_joined :
    {M : Type 0} (step : M → Event → Option M) (m : M) (text piece : List ℕ)
    → left_by step m (text ++ piece) ≡ fed step (left_by step m text) piece
left_joined step m text piece =
    ap (follow step m 1) (lines_joined text piece) ∙ follow_joined step m 1 (lines_of text) piece (are_lines text)
