-- Lines that are too long to be one of a trace.
use Rattle.std.proofs.Common.{◌≡◌, ℕ, ◌<◌, ◌+◌, Bool, true, false, List, [], ◌∷◌, ◌++◌, Option, Some, None, length, refl, sym, ap, ◌∙◌, arith, length-append}
use Rattle.std.specs.Prelude.{codes, nat_le, if◌then◌else◌}
use Rattle.std.proofs.lemmas.Bool.{leb-true, leb-false}
use Rattle.journal.specs.declared.event.Event.{Event}
use Rattle.trace_text.specs.Reading.{pieces, event_at}
use Rattle.trace_text.proofs.Binds.{is_word}
use Rattle.trace_text.proofs.Lines.{line_is}
use Rattle.trace_text.proofs.Lengths.{line_length}
use Rattle.trace_text.specs.Spelling.{text_of_event}
use Rattle.replayer.specs.declared.fault.ReplayFault.TheVariants.{Spelling}
use Rattle.replayer.specs.declared.reader.Found.TheVariants as found
use Rattle.replayer.specs.Lines.{Line, is_end_word, event_in}
use Rattle.replayer.specs.Reader.{found_in}
use Rattle.replayer.specs.Traces.{Place, reading, refused, at_open, at_closed, follow, longest}
use Rattle.replayer.proofs.Cutting.{prefixed}

-- No long line is `end`.
pub long_no_end : (bytes : List ℕ) → longest < length bytes → is_end_word bytes ≡ false
long_no_end bytes long = go (is_end_word bytes) refl
  where
    go : (b : Bool) → is_end_word bytes ≡ b → b ≡ false
    go false is = refl
    go true is = let l = ap (λ (x : List ℕ). length x) (is_word bytes (codes "end") is) in absurd (omega arith)

-- No event spells a long line.
pub long_no_event : (bytes : List ℕ) → longest < length bytes → event_in bytes ≡ None
unfolding event_in
long_no_event bytes long = go (event_at (pieces 32 bytes)) refl
  where
    go : (o : Option Event) → event_at (pieces 32 bytes) ≡ o → o ≡ None
    go None is = refl
    go (Some e) is =
        let s = line_is bytes e is in
        let k = line_length e s.0 in
        let l = ap (λ (x : List ℕ). length x) s.1 in
        let m = length-append (text_of_event e) (10 ∷ []) in absurd (omega arith)

pub long_misspelled : (bytes : List ℕ) → longest < length bytes → found_in bytes ≡ found.Misspelled
long_misspelled bytes long = rw (long_no_end bytes long, long_no_event bytes long) refl

-- Too many bytes within a line are a fault at once.
pub long_open :
    {M : Type 0} (m : M) (number : ℕ) (bytes : List ℕ) → longest < length bytes
    → at_open m number bytes ≡ refused (Spelling number)
long_open m number bytes long = go (nat_le (length bytes) longest) refl
  where
    go :
        (b : Bool) → nat_le (length bytes) longest ≡ b
        → (if b then reading m number bytes else refused (Spelling number)) ≡ refused (Spelling number)
    go false is = refl
    go true is = let l = leb-true (length bytes) longest is in absurd (omega arith)

pub long_closed :
    {M : Type 0} (step : M → Event → Option M) (m : M) (number : ℕ) (bytes : List ℕ) (go : M → Place M)
    → longest < length bytes → at_closed step m number bytes go ≡ refused (Spelling number)
long_closed step m number bytes go long = rw (long_no_end bytes long, long_no_event bytes long) refl

-- A front that is too long is a fault whatever lines it stands before.
pub long_front :
    {M : Type 0} (step : M → Event → Option M) (m : M) (number : ℕ) (front : List ℕ) (ls : List Line)
    → longest < length front → follow step m number (prefixed front ls) ≡ refused (Spelling number)
long_front step m number [] [] long = absurd (omega arith)
long_front step m number (b ∷ bs) [] long = long_open m number (b ∷ bs) long
long_front step m number front (l ∷ ls) long = go l.closed
  where
    longer : longest < length (front ++ l.bytes)
    longer = let k = length-append front l.bytes in omega arith

    go :
        (closed : Bool)
        → (if closed
        then at_closed step m number (front ++ l.bytes) (λ next. follow step next (number + 1) ls)
        else at_open m number (front ++ l.bytes)) ≡ refused (Spelling number)
    go true = long_closed step m number (front ++ l.bytes) (λ next. follow step next (number + 1) ls) longer
    go false = long_open m number (front ++ l.bytes) longer

-- A line that does not fit is misspelled.
pub unfit_misspelled :
    (kept front bytes : List ℕ) (fits : Bool) → fits ≡ nat_le (length (kept ++ bytes)) longest → kept ≡ front
    → fits ≡ false → found.Misspelled ≡ found_in (front ++ bytes)
unfit_misspelled kept front bytes true is same unfit = absurd cc
unfit_misspelled kept front bytes false is same unfit =
    let long : longest < length (kept ++ bytes) = leb-false (length (kept ++ bytes)) longest (sym is) in
    sym (long_misspelled (kept ++ bytes) long) ∙ ap (λ (x : List ℕ). found_in (x ++ bytes)) same
