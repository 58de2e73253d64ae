-- The answering boards, one after another, as one change of all rows.
use Rattle.std.proofs.Common.{◌≡◌, ℕ, zero, suc, ◌+◌, ◌<◌, Bool, true, false, cond, List, [], ◌∷◌, ◌++◌, length, get_or, take, refl, ap, sym, ◌∙◌, arith, Option, Some, None}
use Rattle.std.specs.Prelude.{filter_map, ◌==◌, ◌&&◌, find, option_map}
use Rattle.std.specs.List.{cons_option}
use Rattle.std.proofs.lemmas.List.{take_more}
use Rattle.std.proofs.lemmas.Bool.Decides.{nat_tests}
use Rattle.moesi_state.specs.States.{holds}
use Rattle.journal.specs.Rising.{IsRising}
use Rattle.journal.specs.Boards.{answer_boards}
use Rattle.bus_signals.specs.declared.BusEvent.{BusEvent}
use Rattle.bus_signals.specs.Meanings.{reads}
use Rattle.bus_model.specs.Connecting.{intervener}
use Rattle.bus_model.specs.Events.{Answer, Board, Nobody}
use Rattle.bus_model.specs.Configuration.{Row, is_copy}
use Rattle.bus_model.specs.Effects.{row_as}
use Rattle.bus_model.specs.Carrying.{source_of, intervener_or_memory}
use Rattle.board.specs.declared.change.Change.{Change}
use Rattle.board.specs.Frames.{changed_words}
use Rattle.board.specs.Rack.{Rack, row_given, IsBoard}
use Rattle.data_phase.specs.Seen.{rows_given_all, rack_given_all, change_for, AllAreBoards, AreOthers}

given-push : (rows : List Row) (line : ℕ) (takers : List ℕ) (change : Change) (xs : List Answer) (a : Answer)
    → rows_given_all rows line takers change (xs ++ a ∷ [])
    ≡ filter_map (row_given a.board line a.action.result (changed_words (change_for takers change a.board)))
    (rows_given_all rows line takers change xs)
given-push rows line takers change [] a = refl
given-push rows line takers change (x ∷ xs) a =
    given-push
    (filter_map (row_given x.board line x.action.result (changed_words (change_for takers change x.board))) rows)
    line takers change xs a

pub given-more :
    (rack now : Rack) (line : ℕ) (takers : List ℕ) (change : Change) (answers : List Answer) (i : ℕ) (d : Answer)
    → i < length answers
    → now ≡ rack_given_all rack line takers change (take i answers)
    → record now {
      rows = filter_map (row_given (get_or answers i d).board line (get_or answers i d).action.result
          (changed_words (change_for takers change (get_or answers i d).board))) now.rows;
    }
    ≡ rack_given_all rack line takers change (take (i + 1) answers)
given-more rack now line takers change answers i d l e =
    rw e (sym (ap (λ (xs : List Answer). rack_given_all rack line takers change xs) (take_more answers i d l)
    ∙ ap (λ (rows : List Row). record rack { rows = rows })
    (given-push rack.rows line takers change (take i answers) (get_or answers i d))))

pub board-at :
    (rack : Rack) (answers : List Answer) (i : ℕ) (d : Answer) → i < length answers → AllAreBoards rack answers
    → IsBoard rack (get_or answers i d).board
board-at rack [] i d l h = absurd (omega arith)
board-at rack (a ∷ answers) zero d l h = h.0
board-at rack (a ∷ answers) (suc i) d l h = board-at rack answers i d (omega arith) h.1

-- One pass.

abbrev pub answering_by : ℕ → List ℕ → Change → List Answer → Row → Option Row
answering_by line takers change [] row = Some row
answering_by line takers change (a ∷ rest) row =
    cond (is_copy a.board line row)
    (row_as a.action.result (changed_words (change_for takers change a.board) row.words) row)
    (answering_by line takers change rest row)

abbrev then : Option Row → (Row → Option Row) → Option Row
then None f = None
then (Some row) f = f row

then-list-by :
    (f : Row → Option Row) (o : Option Row) (rest : List Row)
    → filter_map f (cons_option o rest) ≡ cons_option (then o f) (filter_map f rest)
then-list-by f None rest = refl
then-list-by f (Some row) rest = refl

then-list :
    (f g h : Row → Option Row) → ((row : Row) → then (g row) f ≡ h row) → (rows : List Row)
    → filter_map f (filter_map g rows) ≡ filter_map h rows
then-list f g h e [] = refl
then-list f g h e (row ∷ rows) =
    then-list-by f (g row) (filter_map g rows)
    ∙ ap (λ (o : Option Row). cons_option o (filter_map f (filter_map g rows))) (e row)
    ∙ ap (cons_option (h row)) (then-list f g h e rows)

-- A row of a board that does not answer stays.
abbrev pub AllDiffer : ℕ → List Answer → Type 0
AllDiffer b [] = Unit {0}
AllDiffer b (a ∷ rest) = ((b == a.board) ≡ false) × AllDiffer b rest

pub stays :
    (line : ℕ) (takers : List ℕ) (change : Change) (rest : List Answer) (row : Row) → AllDiffer row.board rest
    → answering_by line takers change rest row ≡ Some row
stays line takers change [] row h = refl
stays line takers change (a ∷ rest) row h = rw h.0 (stays line takers change rest row h.1)

differ : (x : ℕ) (rest : List Answer) → IsRising (x ∷ answer_boards rest) → AllDiffer x rest
differ x [] h = tt
differ x (a ∷ []) h = (let g = h.0 in grind (arith, nat_tests), tt)
differ x (a ∷ b ∷ rest) h =
    let g = h.0 in
    let later : IsRising (x ∷ answer_boards (b ∷ rest)) = (let k = h.1.0 in omega arith, h.1.1) in
    (grind (arith, nat_tests), differ x (b ∷ rest) later)

step-as :
    (line : ℕ) (takers : List ℕ) (change : Change) (rest : List Answer) (held : Bool) (r : Row) → AllDiffer r.board rest
    → then (cond held (Some r) None) (answering_by line takers change rest) ≡ cond held (Some r) None
step-as line takers change rest true r h = stays line takers change rest r h
step-as line takers change rest false r h = refl

differ-same : (b c : ℕ) (rest : List Answer) → b ≡ c → AllDiffer c rest → AllDiffer b rest
differ-same b c rest e h = rw e h

step-by :
    (line : ℕ) (takers : List ℕ) (change : Change) (a : Answer) (rest : List Answer) (row : Row) (here : Bool)
    → (row.board == a.board && row.line == line) ≡ here → AllDiffer a.board rest
    → then
    (cond here (row_as a.action.result (changed_words (change_for takers change a.board) row.words) row) (Some row))
    (answering_by line takers change rest)
    ≡ cond here (row_as a.action.result (changed_words (change_for takers change a.board) row.words) row)
    (answering_by line takers change rest row)
step-by line takers change a rest row true e h =
    let same : row.board ≡ a.board = grind (arith, nat_tests) in
    step-as line takers change rest (holds a.action.result) _ (differ-same row.board a.board rest same h)
step-by line takers change a rest row false e h = refl

rising-rest :
    (a : Answer) (rest : List Answer) → IsRising (a.board ∷ answer_boards rest) → IsRising (answer_boards rest)
rising-rest a [] h = tt
rising-rest a (b ∷ rest) h = h.1

filter_map-all : (rows : List Row) → filter_map (λ row. Some row) rows ≡ rows
filter_map-all [] = refl
filter_map-all (row ∷ rows) = ap (λ r. row ∷ r) (filter_map-all rows)

pub given-all :
    (line : ℕ) (takers : List ℕ) (change : Change) (answers : List Answer) (rows : List Row)
    → IsRising (answer_boards answers)
    → rows_given_all rows line takers change answers ≡ filter_map (answering_by line takers change answers) rows
given-all line takers change [] rows h = sym (filter_map-all rows)
given-all line takers change (a ∷ rest) rows h =
    given-all line takers change rest _ (rising-rest a rest h)
    ∙ then-list (answering_by line takers change rest)
    (row_given a.board line a.action.result (changed_words (change_for takers change a.board)))
    (answering_by line takers change (a ∷ rest))
    (λ row. step-by line takers change a rest row (is_copy a.board line row) refl (differ a.board rest h)) rows

-- The boards of the answers.

pub others-are-boards :
    (rack : Rack) (master : ℕ) (answers : List Answer) → AreOthers rack master answers → AllAreBoards rack answers
others-are-boards rack master [] h = tt
others-are-boards rack master (a ∷ rest) h = (h.0.0, others-are-boards rack master rest h.1)

pub still-boards :
    (rack now : Rack) (b : ℕ) (line : ℕ) (takers : List ℕ) (change : Change) (answers : List Answer)
    → now ≡ rack_given_all rack line takers change answers → IsBoard rack b → IsBoard now b
still-boards rack now b line takers change answers e h = rw e (record { low = h.low; high = h.high })

found-by :
    (rack : Rack) (a : Answer) (rest : List Answer) (t : Bool) (b : ℕ) → IsBoard rack a.board
    → (intervener rest ≡ Some b → IsBoard rack b)
    → option_map (λ (x : Answer). x.board) (cond t (Some a) (find (λ (x : Answer). x.action.response.di) rest)) ≡ Some b
    → IsBoard rack b
found-by rack a rest true b here later e = let same : a.board ≡ b = cc in rw (← same) here
found-by rack a rest false b here later e = later e

found-board :
    (rack : Rack) (master : ℕ) (answers : List Answer) (b : ℕ) → AreOthers rack master answers
    → intervener answers ≡ Some b → IsBoard rack b
found-board rack master [] b h e = cc
found-board rack master (a ∷ rest) b h e =
    found-by rack a rest a.action.response.di b h.0.0 (found-board rack master rest b h.1) e

read-by : (o : Option ℕ) (b : ℕ) → Board b ≡ intervener_or_memory o → o ≡ Some b
read-by None b e = cc
read-by (Some x) b e = let same : b ≡ x = cc in rw same refl

pub source-board :
    (rack : Rack) (master : ℕ) (event : BusEvent) (answers : List Answer) (b : ℕ) → AreOthers rack master answers
    → Board b ≡ source_of event answers → IsBoard rack b
source-board rack master event answers b h e = go (reads event) e
  where
    go : (reading : Bool) → Board b ≡ cond reading (intervener_or_memory (intervener answers)) Nobody → IsBoard rack b
    go true e = found-board rack master answers b h (read-by (intervener answers) b e)
    go false e = cc
