-- Harm: what is wrong after an event.
use Rattle.std.specs.Prelude.{ℕ, zero, suc, Bool, true, false, not, ◌&&◌, ◌==◌, nat_le, List, [], ◌∷◌, Option, Some, None, length, if◌then◌else◌}
use Rattle.std.specs.List.{list_all}
use Rattle.bus_model.specs.Setup.{Setup, line_count}
use Rattle.bus_model.specs.Events.{Event, Local, Drop, Raise, Grant, Connect, DataPhase, Done}
use Rattle.bus_model.specs.Configuration.{Configuration, Row, rows_of_line, memory_line}
use Rattle.bus_model.specs.Board.{access_line}
use Rattle.bus_model.specs.Coherence.{owner_count, has_alone}
use Rattle.bus_model.specs.Entries.{Entry, owed_reply, entries_with, latest_line}
use Rattle.audit.specs.declared.finding.Harm.{Harm}
use Rattle.audit.specs.declared.finding.Harm.TheVariants.{Reply, Owners, Shared, Words, Memory}

-- Whether two lists of words are the same.
abbrev pub same_words : List ℕ → List ℕ → Bool
same_words [] [] = true
same_words [] (y ∷ ys) = false
same_words (x ∷ xs) [] = false
same_words (x ∷ xs) (y ∷ ys) = (x == y) && same_words xs ys

-- Whether two replies are the same.
abbrev pub same_reply : Option ℕ → Option ℕ → Bool
same_reply None None = true
same_reply None (Some y) = false
same_reply (Some x) None = false
same_reply (Some x) (Some y) = x == y

-- What is wrong with a line of these rows and these words of memory, where the latest words are
-- these. Of several faults it is the first: two rows own the line; a row that is to be alone is
-- not; a row has other words than the latest; or memory has, though no row owns the line.
abbrev pub line_harm : List Row → List ℕ → List ℕ → Option Harm
line_harm rows memory latest =
    if not (nat_le (owner_count rows) 1) then Some Owners
    else (if has_alone rows && not (nat_le (length rows) 1) then Some Shared
    else (if not (list_all (λ (row : Row). same_words row.words latest) rows) then Some Words
    else (if (owner_count rows == 0) && not (same_words memory latest) then Some Memory
    else None)))

-- What is wrong with a line of a configuration after this history.
abbrev pub harm_at : List ℕ → List Entry → Configuration → ℕ → Option Harm
harm_at memory history c line =
    line_harm (rows_of_line c.rows line) (memory_line c.memory line)
    (latest_line memory history line)

-- The lowest line with a harm, of so many lines from this one on, where this is the harm of the
-- first of them.
abbrev pub or_later : Option Harm → ℕ → Option (Harm × ℕ) → Option (Harm × ℕ)
or_later (Some harm) line later = Some (harm, line)
or_later None line later = later

abbrev pub lowest : (ℕ → Option Harm) → ℕ → ℕ → Option (Harm × ℕ)
lowest harm line zero = None
lowest harm line (suc n) = or_later (harm line) line (lowest harm (suc line) n)

-- The lowest line with a harm, and the harm.
abbrev pub lines_harm : Setup → List Entry → Configuration → Option (Harm × ℕ)
lines_harm setup history c = lowest (harm_at setup.memory history c) 0 (line_count setup)

-- The access that an event completes.
abbrev pub done_in : Event → Option Done
done_in (Local board before state done) = Some done
done_in (Drop board line before) = None
done_in (Raise board) = None
done_in (Grant by winner lines rounds) = None
done_in (Connect t) = None
done_in (DataPhase e) = e.done

-- A reply that is not the one that is owed after this history is a harm of the access's line.
abbrev pub reply_harm : List ℕ → List Entry → Option Done → Option (Harm × ℕ)
reply_harm memory history None = None
reply_harm memory history (Some done) =
    if same_reply done.reply (owed_reply memory history done.access)
    then None
    else Some (Reply, access_line done.access)

-- The first of two harms.
abbrev pub first_of_harms : Option (Harm × ℕ) → Option (Harm × ℕ) → Option (Harm × ℕ)
first_of_harms (Some harm) other = Some harm
first_of_harms None other = other

-- The harm after an event that leads to a configuration, after the history before it: a wrong reply
-- comes first.
abbrev pub harm_after : Setup → List Entry → Event → Configuration → Option (Harm × ℕ)
harm_after setup history event next =
    first_of_harms (reply_harm setup.memory history (done_in event))
    (lines_harm setup (entries_with history event) next)
