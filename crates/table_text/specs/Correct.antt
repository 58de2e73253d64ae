-- What it means that a table is read right.
use Rattle.std.specs.Prelude.{◌≡◌, ℕ, ◌<◌, ◌≤◌, List, [], ◌∷◌, ◌++◌, length, Result, Ok, Err}
use Rattle.fb_text.specs.Unread.{Unread}
use Rattle.fb_text.specs.Places.{Place, items, lines_places, places, FirstFault}
use Rattle.class_relation.specs.Tables.{Table, empty_table, locals_of, answers_of}
use Rattle.table_text.specs.declared.fault.TableFault.{TableFault}
use Rattle.table_text.specs.declared.fault.TableFault.TheVariants as faults
use Rattle.table_text.specs.Spelling.{CellLine, local, answer, table_items, table_of, entered, table_grammar}

-- a cell line that can stand after others: its cell was not given, and it has one to sixteen
-- alternatives
abbrev pub CanStand : Table → CellLine → Type 0
CanStand t (local s e alts) = (locals_of t s e ≡ []) × (0 < length alts) × (length alts ≤ 16)
CanStand t (answer s e alts) = (answers_of t s e ≡ []) × (0 < length alts) × (length alts ≤ 16)

abbrev pub AllStand : Table → List CellLine → Type 0
AllStand t [] = Unit {0}
AllStand t (c ∷ cs) = CanStand t c × AllStand (entered t c) cs

-- what was unread is the text of the table, of cell lines that can stand, up to where the scan
-- is after it
pub record IsTable (name : List ℕ) (u : Unread) (after : Table) (left : Unread) : Type 0 where
  pub cells : List CellLine
  pub stand : AllStand (empty_table name) cells
  pub parts : items (places u) ≡ table_items cells ++ items (lines_places left.lines left.end)
  pub value : after ≡ table_of name cells
  pub ends : left.words ≡ []

-- the table was read, unless memory ran out
abbrev pub IsReadAs : Result Table TableFault → Table → Type 0
IsReadAs (Ok t) want = t ≡ want
IsReadAs (Err faults.NoMemory) want = Unit {0}
IsReadAs (Err (faults.Bad line kind)) want = ⊥

-- the fault is the first one, and this is its kind
abbrev pub IsFirstFault : TableFault → List Place → Type 0
IsFirstFault faults.NoMemory ps = Unit {0}
IsFirstFault (faults.Bad line kind) ps = FirstFault table_grammar ps line kind
