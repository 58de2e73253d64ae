-- The grammar of a table's text, from just after its name to the end of its `end` line.
use Rattle.std.specs.Prelude.{◌≡◌, ℕ, ◌+◌, ◌<◌, ◌⊎◌, Bool, true, List, [], ◌∷◌, ◌++◌, length, map, Option, Some, None, codes, slice_set, if◌then◌else◌}
use Rattle.std.specs.List.{AllByRecursion}
use Rattle.std.specs.Str.{bytes_eq}
use Rattle.fb_text.specs.Places.{Item, word, line_end, text_end, Words, lines_items, BreaksAtWord, Grammar}
use Rattle.moesi_state.specs.declared.State.{State}
use Rattle.bus_signals.specs.declared.LocalEvent.{LocalEvent}
use Rattle.bus_signals.specs.declared.BusEvent.{BusEvent}
use Rattle.class_relation.specs.declared.LocalAction.{LocalAction}
use Rattle.class_relation.specs.declared.SnoopAction.{SnoopAction}
use Rattle.class_relation.specs.Tables.{local_cell, answer_cell}
use Rattle.class_relation.specs.Tables.{Table, empty_table}
use Rattle.table_text.specs.declared.fault.TableKind.{TableKind}
use Rattle.table_text.specs.declared.fault.TableKind.TheVariants.{UnknownWord, TwiceCell, NoCell, Alternatives, NoEnd}
use Rattle.class_words.specs.Words.{state_word, local_event_word, bus_event_word, outcome_word}

-- ---- what is written

abbrev pub bar : List ℕ
bar = codes "|"

abbrev pub bus_words : Option BusEvent → List (List ℕ)
bus_words None = []
bus_words (Some event) = bus_event_word event ∷ []

abbrev pub local_words : LocalAction → List (List ℕ)
local_words a = outcome_word a.result ∷ bus_words a.bus

abbrev pub signal_words : Bool → List ℕ → List (List ℕ)
signal_words true name = name ∷ []
signal_words _ name = []

abbrev pub snoop_words : SnoopAction → List (List ℕ)
snoop_words a =
    state_word a.result
    ∷ (signal_words a.response.ch (codes "CH") ++ signal_words a.response.di (codes "DI")
    ++ signal_words a.response.sl (codes "SL"))

-- alternatives, with a bar between two of them
abbrev pub alternative_words : {A : Type 0} → (A → List (List ℕ)) → List A → List (List ℕ)
alternative_words f [] = []
alternative_words f (a ∷ []) = f a
alternative_words f (a ∷ b ∷ more) = f a ++ bar ∷ alternative_words f (b ∷ more)

-- a line that gives a cell its alternatives
pub data CellLine : Type 0 where
  local : State → LocalEvent → List LocalAction → CellLine
  answer : State → BusEvent → List SnoopAction → CellLine

abbrev pub cell_words : CellLine → List (List ℕ)
cell_words (local s e alts) =
    state_word s ∷ local_event_word e ∷ codes "=" ∷ alternative_words local_words alts
cell_words (answer s e alts) =
    state_word s ∷ bus_event_word e ∷ codes "=" ∷ alternative_words snoop_words alts

abbrev pub HasAlternative : CellLine → Type 0
HasAlternative (local s e alts) = 0 < length alts
HasAlternative (answer s e alts) = 0 < length alts

-- the rest of the head line, the cell lines in any order, and the `end` line
abbrev pub table_rows : List CellLine → List Words
table_rows cells = [] ∷ (map cell_words cells ++ (codes "end" ∷ []) ∷ [])

abbrev pub table_items : List CellLine → List Item
table_items cells = lines_items (table_rows cells)

-- ---- what a text means

-- the cell has these alternatives
abbrev pub entered : Table → CellLine → Table
entered t (local s e alts) = record t { locals = slice_set t.locals (local_cell s e) alts }
entered t (answer s e alts) = record t { answers = slice_set t.answers (answer_cell s e) alts }

abbrev pub all_entered : Table → List CellLine → Table
all_entered t [] = t
all_entered t (c ∷ cs) = all_entered (entered t c) cs

abbrev pub table_of : List ℕ → List CellLine → Table
table_of name cells = all_entered (empty_table name) cells

-- ---- the side conditions, each at the place where it is judged

-- a line begins with these two words
abbrev pub HasLine : List Words → List ℕ → List ℕ → Type 0
HasLine [] v w = ⊥
HasLine (l ∷ ls) v w = ((more : Words) × (l ≡ v ∷ w ∷ more)) ⊎ HasLine ls v w

-- the second word of a line that names the cell of an earlier line
abbrev pub IsTwice : List Words → Words → List ℕ → Type 0
IsTwice earlier words here = (state : List ℕ) × (words ≡ state ∷ []) × HasLine earlier state here

-- how many of the words are bars
abbrev pub bars : Words → ℕ
bars [] = 0
bars (w ∷ ws) = (if bytes_eq w bar then 1 else 0) + bars ws

-- a cell given twice, and a word after sixteen bars of its line
abbrev pub BreaksCell : List Words → Words → List ℕ → TableKind → Type 0
BreaksCell earlier words here kind =
    (IsTwice earlier words here × (kind ≡ TwiceCell))
    ⊎ ((bars words ≡ 16) × (kind ≡ Alternatives 17))

-- ---- the kinds of the other faults

-- `=` is last
abbrev pub EndsWithEquals : List Item → Type 0
EndsWithEquals before = (front : List Item) × (before ≡ front ++ word (codes "=") ∷ [])

abbrev pub UnfitTable : List Item → Item → TableKind → Type 0
UnfitTable before text_end kind = kind ≡ NoEnd
UnfitTable before line_end kind =
    (EndsWithEquals before × (kind ≡ NoCell)) ⊎ (¬ (EndsWithEquals before) × (kind ≡ UnknownWord))
UnfitTable before (word w) kind = kind ≡ UnknownWord

abbrev pub table_grammar : Grammar (List CellLine) TableKind
table_grammar =
    record {
      spelled = table_items;
      Fits = AllByRecursion HasAlternative;
      Breaks = BreaksAtWord BreaksCell;
      Unfit = UnfitTable;
    }
