-- Where a piece leaves a replay.
use Rattle.std.proofs.Common.{◌≡◌, ℕ, ◌+◌, Bool, true, false, List, [], ◌∷◌, ◌++◌, Option, Some, None, length, refl, sym, ap, ◌∙◌, append_assoc, subst}
use Rattle.std.specs.Prelude.{nat_le, if◌then◌else◌}
use Rattle.bus_model.specs.Events.{Event}
use Rattle.backplane.specs.Machine.{Machine, opened}
use Rattle.replayer.specs.declared.fault.ReplayFault.TheVariants.{Spelling}
use Rattle.replayer.specs.declared.reader.Found.{Found}
use Rattle.replayer.specs.declared.reader.Found.TheVariants as found
use Rattle.replayer.specs.Lines.{last_line, lines_of, is_end_word, event_in}
use Rattle.replayer.specs.Reader.{LacksFeed, found_event, found_in}
use Rattle.replayer.specs.Traces.{Place, reading, ended, refused, by_event, at_open, at_closed, follow, fed, left_by, longest}
use Rattle.replayer.proofs.Cutting.{lines_none, lines_closed, lines_open}
use Rattle.replayer.proofs.Fed.{closed_fed}
use Rattle.replayer.specs.declared.stage.Stage.{Stage}
use Rattle.replayer.specs.declared.stage.Stage.TheVariants.{Reading, Ended, Refused}
use Rattle.replayer.specs.Replaying.{step}
use Rattle.replayer.specs.Standing.{number_of_next, place_of, IsReading, at_found}

pub lacks_append : (x y : List ℕ) → LacksFeed x → LacksFeed y → LacksFeed (x ++ y)
lacks_append [] y h k = k
lacks_append (b ∷ x) y h k = (h.0, lacks_append x y h.1 k)

still : (place old : Place Machine) → place ≡ old → IsReading old → IsReading place
still place old is reads = subst IsReading (sym is) reads

-- The place after a line with its line feed.
found_closed :
    (machine : Machine) (number : ℕ) (bytes : List ℕ)
    → at_found machine number (found_in bytes)
    ≡ at_closed step machine number bytes (λ next. reading next (number + 1) [])
found_closed machine number bytes = at (is_end_word bytes)
  where
    by :
        (o : Option Event)
        → at_found machine number (found_event o)
        ≡ by_event step machine refused (λ next. reading next (number + 1) []) number o
    by None = refl
    by (Some event) = refl

    at :
        (b : Bool)
        → at_found machine number (if b then found.End else found_event (event_in bytes))
        ≡ (if b
        then ended machine
        else by_event step machine refused (λ next. reading next (number + 1) []) number (event_in bytes))
    at true = refl
    at false = by (event_in bytes)

closed_line_fed :
    (machine : Machine) (number : ℕ) (kept bytes rest : List ℕ) (place : Place Machine) → LacksFeed kept
    → LacksFeed bytes
    → place ≡ at_found machine number (found_in (kept ++ bytes))
    → fed step place rest ≡ fed step (reading machine number kept) (bytes ++ 10 ∷ rest)
closed_line_fed machine number kept bytes rest place k b is =
    ap (λ (p : Place Machine). fed step p rest) (is ∙ found_closed machine number (kept ++ bytes))
    ∙ (sym (closed_fed step machine number (kept ++ bytes) rest (λ next. reading next (number + 1) [])
    (λ next. follow step next (number + 1) (lines_of rest)) (λ next. refl))
    ∙ (ap (follow step machine number) (sym (lines_closed (kept ++ bytes) rest (lacks_append kept bytes k b)))
    ∙ ap (λ (text : List ℕ). follow step machine number (lines_of text)) (append_assoc kept bytes (10 ∷ rest))))

-- A line with its line feed is read.
pub line_read :
    (old : Place Machine) (machine : Machine) (kept : List ℕ) (stage : Stage) (bytes rest : List ℕ)
    (place : Place Machine)
    → place_of machine kept stage ≡ old → IsReading old → LacksFeed kept → LacksFeed bytes
    → place ≡ at_found machine (number_of_next machine) (found_in (kept ++ bytes))
    → fed step place rest ≡ fed step old (bytes ++ 10 ∷ rest)
line_read old machine kept Reading bytes rest place is reads k b same =
    closed_line_fed machine (number_of_next machine) kept bytes rest place k b same
    ∙ ap (λ (p : Place Machine). fed step p (bytes ++ 10 ∷ rest)) is
line_read old machine kept Ended bytes rest place is reads k b same =
    absurd (still (place_of machine kept Ended) old is reads)
line_read old machine kept (Refused fault) bytes rest place is reads k b same =
    absurd (still (place_of machine kept (Refused fault)) old is reads)

-- What was found of a line leaves no bytes.
pub line_found :
    (old new : Machine) (kept : List ℕ) (stage : Stage) (line wanted : Found) → kept ≡ []
    → place_of new [] stage ≡ at_found old (number_of_next old) line → line ≡ wanted
    → place_of new kept stage ≡ at_found old (number_of_next old) wanted
line_found old new kept stage line wanted fresh is same =
    ap (λ (x : List ℕ). place_of new x stage) fresh ∙ (is ∙ ap (at_found old (number_of_next old)) same)

-- ---- a line that goes on

follow_last :
    (machine : Machine) (number : ℕ) (bytes : List ℕ)
    → follow step machine number (last_line bytes) ≡ at_open machine number bytes
follow_last machine number [] = refl
follow_last machine number (b ∷ bs) = refl

open_line_fed :
    (machine : Machine) (number : ℕ) (kept bytes : List ℕ) → LacksFeed kept → LacksFeed bytes
    → at_open machine number (kept ++ bytes) ≡ fed step (reading machine number kept) bytes
open_line_fed machine number kept bytes k b =
    sym (ap (follow step machine number) (lines_open (kept ++ bytes) (lacks_append kept bytes k b))
    ∙ follow_last machine number (kept ++ bytes))

-- A line that still fits goes on.
pub line_kept :
    (old : Place Machine) (machine : Machine) (kept now : List ℕ) (stage : Stage) (bytes : List ℕ) (fits : Bool)
    → place_of machine kept stage ≡ old → IsReading old → LacksFeed kept → LacksFeed bytes
    → fits ≡ nat_le (length (kept ++ bytes)) longest → fits ≡ true → now ≡ kept ++ bytes
    → place_of machine now stage ≡ fed step old bytes
line_kept old machine kept now Reading bytes fits is reads k b test yes_ same =
    ap (λ (x : List ℕ). reading machine (number_of_next machine) x) same
    ∙ (ap (λ (t : Bool).
    if t
    then reading machine (number_of_next machine) (kept ++ bytes)
    else refused (Spelling (number_of_next machine))) (sym yes_ ∙ test)
    ∙ (open_line_fed machine (number_of_next machine) kept bytes k b ∙ ap (λ (p : Place Machine). fed step p bytes) is))
line_kept old machine kept now Ended bytes fits is reads k b test yes_ same =
    absurd (still (place_of machine kept Ended) old is reads)
line_kept old machine kept now (Refused fault) bytes fits is reads k b test yes_ same =
    absurd (still (place_of machine kept (Refused fault)) old is reads)

-- A line that has become too long is a fault.
pub line_unfit :
    (old : Place Machine) (machine : Machine) (kept : List ℕ) (stage new : Stage) (now bytes : List ℕ) (fits : Bool)
    → place_of machine kept stage ≡ old → IsReading old → LacksFeed kept → LacksFeed bytes
    → fits ≡ nat_le (length (kept ++ bytes)) longest → fits ≡ false → new ≡ Refused (Spelling (number_of_next machine))
    → place_of machine now new ≡ fed step old bytes
line_unfit old machine kept Reading new now bytes fits is reads k b test no_ same =
    ap (place_of machine now) same
    ∙ (ap (λ (t : Bool).
    if t
    then reading machine (number_of_next machine) (kept ++ bytes)
    else refused (Spelling (number_of_next machine))) (sym no_ ∙ test)
    ∙ (open_line_fed machine (number_of_next machine) kept bytes k b ∙ ap (λ (p : Place Machine). fed step p bytes) is))
line_unfit old machine kept Ended new now bytes fits is reads k b test no_ same =
    absurd (still (place_of machine kept Ended) old is reads)
line_unfit old machine kept (Refused fault) new now bytes fits is reads k b test no_ same =
    absurd (still (place_of machine kept (Refused fault)) old is reads)

-- ---- the first line

-- Before the first byte a machine is where no text leaves it.
pub start_stands :
    (machine : Machine) (kept : List ℕ) → machine.journal ≡ [] → kept ≡ []
    → reading machine (number_of_next machine) kept ≡ left_by step (opened machine.setup) []
start_stands machine kept opening fresh =
    ap (λ (x : List ℕ). reading machine (number_of_next machine) x) fresh
    ∙ (ap (λ (j : List Event). reading (record { setup = machine.setup; journal = j }) (length j + 1) []) opening
    ∙ ap (follow step (opened machine.setup) 1) (sym lines_none))
