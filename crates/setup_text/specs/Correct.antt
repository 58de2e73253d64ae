-- What it means that a text is read right.
use Rattle.std.specs.Prelude.{◌≡◌, ℕ, ◌≤◌, List, Result, Ok, Err}
use Rattle.std.specs.List.{AllByRecursion}
use Rattle.fb_text.specs.Places.{items, text_places, Grammar, FirstFault}
use Rattle.class_relation.specs.Tables.{Table}
use Rattle.setup.specs.Setup.{Setup}
use Rattle.setup_text.specs.declared.fault.SetupKind.{SetupKind}
use Rattle.setup_text.specs.declared.fault.SetupFault.{SetupFault}
use Rattle.setup_text.specs.declared.fault.SetupFault.TheVariants as faults
use Rattle.setup_text.specs.Spelling.{TableText, SetupText, setup_items, book_items, schedule_items, ScheduleFits}
pub use Rattle.setup_text.specs.Standing.{CellsStand, InPlaces, SetupStands, BookStands}
use Rattle.setup_text.specs.Values.{tables_of, setup_of, turns_of}

-- ---- what was read

-- The text is that of a setup that can stand, and this is its value.
pub record IsSetup (bytes : List ℕ) (setup : Setup) : Type 0 where
  pub spelled : SetupText
  pub stands : SetupStands spelled
  pub text : items (text_places bytes) ≡ setup_items spelled
  pub value : setup ≡ setup_of spelled

-- The text is that of tables that can stand, and these are they.
pub record IsBook (bytes : List ℕ) (tables : List Table) : Type 0 where
  pub spelled : List TableText
  pub stands : BookStands spelled
  pub text : items (text_places bytes) ≡ book_items spelled
  pub value : tables ≡ tables_of spelled

-- The text is that of lines of places of so many boards, and these are the places.
pub record IsSchedule (boards : ℕ) (bytes : List ℕ) (turns : List ℕ) : Type 0 where
  pub spelled : List (List ℕ)
  pub fits : ScheduleFits boards spelled
  pub text : items (text_places bytes) ≡ schedule_items spelled
  pub value : turns ≡ turns_of spelled

-- Each turn is the place of one of so many boards.
abbrev pub ArePlaces : ℕ → List ℕ → Type 0
ArePlaces boards turns = AllByRecursion (λ p. (1 ≤ p) × (p ≤ boards)) turns

-- A value was read, unless memory ran out.
abbrev pub IsReadAs : {X Y : Type 0} → (X → Y) → Result X SetupFault → Y → Type 0
IsReadAs view (Ok x) want = view x ≡ want
IsReadAs view (Err faults.NoMemory) want = Unit {0}
IsReadAs view (Err (faults.Bad line kind)) want = ⊥

-- The fault is the first one, with its line and its kind.
abbrev pub IsFirstFault : {S : Type 0} → Grammar S SetupKind → List ℕ → SetupFault → Type 0
IsFirstFault g bytes faults.NoMemory = Unit {0}
IsFirstFault g bytes (faults.Bad line kind) = FirstFault g (text_places bytes) line kind
