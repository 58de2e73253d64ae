-- The lines of a run that was printed are read again.
use Rattle.std.proofs.Common.{◌≡◌, ℕ, Bool, true, false, List, [], ◌∷◌, ◌++◌, Option, Some, None, refl, sym, ap, ◌∙◌, subst, append_assoc}
use Rattle.std.specs.Prelude.{codes}
use Rattle.std.specs.List.{flat_map}
use Rattle.journal.specs.declared.event.Event.{Event}
use Rattle.trace_text.specs.Ranges.{InRange}
use Rattle.trace_text.specs.Reading.{event_at}
use Rattle.trace_text.specs.Spelling.{text_of_event, line_of_event}
use Rattle.trace_text.proofs.Binds.{is_word}
use Rattle.trace_text.proofs.Lines.{first_is}
use Rattle.replayer.specs.Lines.{Line, closed_line, lines_of, before_end, trace_of, is_end_word, event_in}
use Rattle.replayer.specs.Printed.{PrintedEventsAreTraces}
use Rattle.replayer.specs.Reader.{LacksFeed}
use Rattle.replayer.proofs.Cutting.{lines_closed}
use Rattle.replayer.proofs.Feeds.{lacks_before}
use Rattle.replayer.proofs.Meanings.{event_spelled}

-- The line of an event has no line feed before its own.
event_lacks : (event : Event) → InRange event → LacksFeed (text_of_event event)
event_lacks event in_range = subst LacksFeed (first_is event [] in_range) (lacks_before (line_of_event event ++ []))

end_spells_none : event_in (codes "end") ≡ None
unfolding event_in event_at
end_spells_none = refl

-- The line of an event is not `end`.
pub event_no_end : (event : Event) → InRange event → is_end_word (text_of_event event) ≡ false
event_no_end event in_range = go (is_end_word (text_of_event event)) refl
  where
    go : (b : Bool) → is_end_word (text_of_event event) ≡ b → b ≡ false
    go false is = refl
    go true is =
        let some = event_spelled (text_of_event event) event in_range refl in
        let none : event_in (text_of_event event) ≡ None =
        ap event_in (is_word (text_of_event event) (codes "end") is) ∙ end_spells_none in
        let both : ◌≡◌ {A = Option Event} (Some event) None = sym some ∙ none in absurd cc

before_text :
    (bytes : List ℕ) (ls : List Line) → is_end_word bytes ≡ false
    → before_end (closed_line bytes ∷ ls) ≡ closed_line bytes ∷ before_end ls
before_text bytes ls no_end = rw no_end refl

cut_line : (bytes more rest : List ℕ) → ((bytes ++ 10 ∷ []) ++ more) ++ rest ≡ bytes ++ 10 ∷ (more ++ rest)
cut_line bytes more rest = append_assoc (bytes ++ 10 ∷ []) more rest ∙ append_assoc bytes (10 ∷ []) (more ++ rest)

pub printed : PrintedEventsAreTraces
printed [] rest all = ap before_end (lines_closed (codes "end") rest (refl, (refl, (refl, tt))))
printed (event ∷ events) rest all =
    let text = text_of_event event in
    let tail = flat_map line_of_event events ++ (codes "end" ++ 10 ∷ rest) in
    ap trace_of (cut_line text (flat_map line_of_event events) (codes "end" ++ 10 ∷ rest))
    ∙ (ap before_end (lines_closed text tail (event_lacks event all.0))
    ∙ (before_text text (lines_of tail) (event_no_end event all.0)
    ∙ ap (λ (ls : List Line). closed_line text ∷ ls) (printed events rest all.1)))
