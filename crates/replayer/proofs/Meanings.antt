-- What is read is what a line means.
use Rattle.std.proofs.Common.{◌≡◌, ◌≢◌, ℕ, false, List, Option, Some, None, refl}
use Rattle.journal.specs.declared.event.Event.{Event}
use Rattle.trace_text.specs.Reading.{pieces, event_at}
use Rattle.trace_text.specs.Ranges.{InRange}
use Rattle.trace_text.specs.Spelling.{text_of_event}
use Rattle.trace_text.proofs.Lines.{line_again, line_is}
use Rattle.replayer.specs.declared.reader.Found.TheVariants as found
use Rattle.replayer.specs.Lines.{is_end_word, event_in}
use Rattle.replayer.specs.Reader.{found_in}

-- The event whose line the bytes are is the one that they spell.
pub event_spelled : (bytes : List ℕ) (e : Event) → InRange e → bytes ≡ text_of_event e → event_in bytes ≡ Some e
unfolding event_in
event_spelled bytes e in_range is = line_again bytes e in_range is

pub spelled_is : (bytes : List ℕ) (e : Event) → event_in bytes ≡ Some e → InRange e × (bytes ≡ text_of_event e)
unfolding event_in
spelled_is bytes e is = line_is bytes e is

pub none_spelled : (bytes : List ℕ) → ((e : Event) → InRange e → bytes ≢ text_of_event e) → event_in bytes ≡ None
unfolding event_in
none_spelled bytes none = go (event_at (pieces 32 bytes)) refl
  where
    go : (o : Option Event) → event_at (pieces 32 bytes) ≡ o → o ≡ None
    go None is = refl
    go (Some e) is = let s = line_is bytes e is in absurd (none e s.0 s.1)

pub means_event :
    (bytes : List ℕ) (e : Event) → is_end_word bytes ≡ false → InRange e → bytes ≡ text_of_event e
    → found.Event e ≡ found_in bytes
means_event bytes e no_end in_range is = rw (no_end, event_spelled bytes e in_range is) refl

pub means_none :
    (bytes : List ℕ) → is_end_word bytes ≡ false → ((e : Event) → InRange e → bytes ≢ text_of_event e)
    → found.Misspelled ≡ found_in bytes
means_none bytes no_end none = rw (no_end, none_spelled bytes none) refl
