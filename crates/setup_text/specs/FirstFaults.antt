-- Reading and the first fault of a text.
use Rattle.std.specs.Prelude.{◌≡◌, ◌↔◌, ℕ, ◌≤◌, List, Result, Err}
use Rattle.fb_text.specs.Places.{Grammar, FirstFault, text_places}
use Rattle.fb_text.specs.Unread.{Unread, unread}
use Rattle.setup_text.specs.declared.fault.SetupKind.{SetupKind}
use Rattle.setup_text.specs.Grammars.{setup_grammar, book_grammar, schedule_grammar}
use Rattle.setup_text.specs.Reading.{Fault, setup_at, book_at, schedule_at}

-- Reading any text gives a fault exactly where that is the text's first fault.
abbrev pub FindsFirstFault :
    {S R : Type 0} → Grammar S SetupKind → (Unread → Result R Fault) → Type 0
FindsFirstFault g read =
    (bytes : List ℕ) (fault : Fault) → (read (unread bytes) ≡ Err fault)
    ↔ FirstFault g (text_places bytes) fault.line fault.kind

-- The fault of a setup is its first one.
abbrev pub SetupFaultsAreFirst : Type 0
SetupFaultsAreFirst = FindsFirstFault setup_grammar setup_at

-- The fault of a text of tables is its first one.
abbrev pub BookFaultsAreFirst : Type 0
BookFaultsAreFirst = FindsFirstFault book_grammar book_at

-- The fault of a schedule is its first one.
abbrev pub ScheduleFaultsAreFirst : Type 0
ScheduleFaultsAreFirst =
    (boards : ℕ) → 1 ≤ boards → boards ≤ 16
    → FindsFirstFault (schedule_grammar boards) (schedule_at boards)
