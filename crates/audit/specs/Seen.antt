-- What the auditor's code sees of the rows of a line, in one pass.
use Rattle.std.specs.Prelude.{ℕ, ◌+◌, not, ◌||◌, List, [], ◌∷◌, false, if◌then◌else◌}
use Rattle.moesi_state.specs.States.{owns, is_alone}
use Rattle.bus_model.specs.Configuration.{Row, is_of_line}
use Rattle.audit.specs.declared.harms.Seen.{Seen}
use Rattle.audit.specs.Harms.{same_words}

-- Nothing seen.
abbrev pub unseen : Seen
unseen = record { owners = 0; alone = false; copies = 0; stale = false }

-- What was seen, with one more row.
abbrev pub with_seen : List ℕ → Seen → Row → Seen
with_seen latest seen row = record {
  owners = seen.owners + (if owns row.state then 1 else 0);
  alone = seen.alone || is_alone row.state;
  copies = seen.copies + 1;
  stale = seen.stale || not (same_words row.words latest);
}

-- What is seen after these rows too, of those of a line.
abbrev pub seen_after : ℕ → List ℕ → Seen → List Row → Seen
seen_after line latest seen [] = seen
seen_after line latest seen (row ∷ rows) =
    seen_after line latest (if is_of_line line row then with_seen latest seen row else seen) rows
