-- The answering boards leave the master's rows, and so its room.
use Rattle.std.proofs.Common.{◌≡◌, ℕ, Bool, true, false, cond, List, [], ◌∷◌, length, refl, ap, sym, ◌∙◌, arith, Option, Some, None}
use Rattle.std.specs.Prelude.{filter, filter_map, find, is_some, IsTrue, IsFalse, nat_lt, ◌==◌, ◌&&◌}
use Rattle.std.specs.List.{cons_option}
use Rattle.std.proofs.lemmas.Bool.Decides.{nat_tests}
use Rattle.moesi_state.specs.declared.State.{State}
use Rattle.moesi_state.specs.States.{holds}
use Rattle.journal.specs.Rising.{IsRising}
use Rattle.journal.specs.Boards.{answer_boards}
use Rattle.bus_model.specs.Setup.{Shape, Plain, Cached, shape_of}
use Rattle.bus_model.specs.Events.{Answer}
use Rattle.bus_model.specs.Configuration.{Row, is_copy, has_row}
use Rattle.bus_model.specs.Board.{is_in_set}
use Rattle.board.specs.declared.change.Change.{Change}
use Rattle.board.specs.Rack.{Rack, can_fill, set_has_room, setup_of}
use Rattle.board.proofs.Rows.{count_where-filter}
use Rattle.data_phase.specs.Seen.{AreOthers, rack_given_all}
use Rattle.data_phase.proofs.Answering.{answering_by, stays, given-all}
use Rattle.data_phase.proofs.OnePass.{others-differ}

abbrev lost : (Row → Bool) → Option Row → Type 0
lost p None = Unit {0}
lost p (Some row) = p row ≡ false

abbrev again : Row → State → List ℕ → Row
again row s w = record { board = row.board; line = row.line; state = s; words = w; fill = row.fill }

filter-lost :
    (p : Row → Bool) (o : Option Row) (rest : List Row) → lost p o → filter p (cons_option o rest) ≡ filter p rest
filter-lost p None rest h = refl
filter-lost p (Some r) rest h = rw h refl

find-lost : (p : Row → Bool) (o : Option Row) (rest : List Row) → lost p o → find p (cons_option o rest) ≡ find p rest
find-lost p None rest h = refl
find-lost p (Some r) rest h = rw h refl

filter-kept-by :
    (p : Row → Bool) (g : Row → Option Row) (row : Row) (rest others : List Row) (t : Bool) → p row ≡ t
    → (p row ≡ true → g row ≡ Some row) → (p row ≡ false → lost p (g row))
    → filter p rest ≡ others → filter p (cons_option (g row) rest) ≡ cond t (row ∷ others) others
filter-kept-by p g row rest others true e kept gone h = rw (kept e, e) (ap (λ (r : List Row). row ∷ r) h)
filter-kept-by p g row rest others false e kept gone h = filter-lost p (g row) rest (gone e) ∙ h

filter-kept :
    (p : Row → Bool) (g : Row → Option Row) → ((row : Row) → p row ≡ true → g row ≡ Some row)
    → ((row : Row) → p row ≡ false → lost p (g row)) → (rows : List Row)
    → filter p (filter_map g rows) ≡ filter p rows
filter-kept p g kept gone [] = refl
filter-kept p g kept gone (row ∷ rows) =
    filter-kept-by p g row (filter_map g rows) (filter p rows) (p row) refl (kept row) (gone row)
    (filter-kept p g kept gone rows)

find-kept-by :
    (p : Row → Bool) (g : Row → Option Row) (row : Row) (rest : List Row) (other : Option Row) (t : Bool) → p row ≡ t
    → (p row ≡ true → g row ≡ Some row) → (p row ≡ false → lost p (g row))
    → find p rest ≡ other → find p (cons_option (g row) rest) ≡ cond t (Some row) other
find-kept-by p g row rest other true e kept gone h = rw (kept e, e) refl
find-kept-by p g row rest other false e kept gone h = find-lost p (g row) rest (gone e) ∙ h

find-kept :
    (p : Row → Bool) (g : Row → Option Row) → ((row : Row) → p row ≡ true → g row ≡ Some row)
    → ((row : Row) → p row ≡ false → lost p (g row)) → (rows : List Row)
    → find p (filter_map g rows) ≡ find p rows
find-kept p g kept gone [] = refl
find-kept p g kept gone (row ∷ rows) =
    find-kept-by p g row (filter_map g rows) (find p rows) (p row) refl (kept row) (gone row)
    (find-kept p g kept gone rows)

gone-as : (p : Row → Bool) (held : Bool) (r : Row) → p r ≡ false → lost p (cond held (Some r) None)
gone-as p true r h = h
gone-as p false r h = tt

gone-step : (p : Row → Bool) (here : Bool) (o k : Option Row) → lost p o → lost p k → lost p (cond here o k)
gone-step p true o k h i = h
gone-step p false o k h i = i

gone-all : (p : Row → Bool) → ((row : Row) (s : State) (w : List ℕ) → p (again row s w) ≡ p row)
    → (line : ℕ) (takers : List ℕ) (change : Change) (answers : List Answer) (row : Row) → p row ≡ false
    → lost p (answering_by line takers change answers row)
gone-all p same line takers change [] row h = h
gone-all p same line takers change (a ∷ rest) row h =
    gone-step p (is_copy a.board line row) _ _ (gone-as p (holds a.action.result) _ (same row _ _ ∙ h))
    (gone-all p same line takers change rest row h)

kept-all :
    (rack : Rack) (master line : ℕ) (takers : List ℕ) (change : Change) (answers : List Answer) (row : Row)
    → AreOthers rack master answers → row.board ≡ master
    → answering_by line takers change answers row ≡ Some row
kept-all rack master line takers change answers row h e =
    stays line takers change answers row (others-differ rack master row.board answers e h)

both-first : (a b : Bool) → (a && b) ≡ true → a ≡ true
both-first true b h = refl
both-first false b h = h

number-is : (m n : ℕ) → (m == n) ≡ true → m ≡ n
number-is m n h = grind (arith, nat_tests)

shape-kept :
    (shape : Shape) (rack : Rack) (master line : ℕ) (takers : List ℕ) (change : Change) (answers : List Answer)
    → AreOthers rack master answers
    → set_has_room shape (filter_map (answering_by line takers change answers) rack.rows) master line
    ≡ set_has_room shape rack.rows master line
shape-kept Plain rack master line takers change answers h = refl
shape-kept (Cached sets ways) rack master line takers change answers h =
    let g = answering_by line takers change answers in
    let p = is_in_set master sets line in
    let same : filter p (filter_map g rack.rows) ≡ filter p rack.rows =
    filter-kept p g (λ row e.
    kept-all rack master line takers change answers row h
    (number-is row.board master (both-first (row.board == master) _ e)))
    (gone-all p (λ row s w. refl) line takers change answers) rack.rows in
    ap (λ (n : ℕ). nat_lt n ways)
    (count_where-filter p (filter_map g rack.rows) ∙ ap length same ∙ sym (count_where-filter p rack.rows))

pub room-after :
    (rack next : Rack) (master line : ℕ) (takers : List ℕ) (change : Change) (answers : List Answer) (state : State)
    → IsRising (answer_boards answers) → AreOthers rack master answers
    → next ≡ rack_given_all rack line takers change answers
    → (IsFalse (has_row rack.rows master line) → IsTrue (holds state)
    → IsTrue (can_fill (setup_of rack) rack.rows master line))
    → IsFalse (has_row next.rows master line) → IsTrue (holds state)
    → IsTrue (can_fill (setup_of next) next.rows master line)
room-after rack next master line takers change answers state rising h e room absent held =
    let g = answering_by line takers change answers in
    let is : next ≡ record rack { rows = filter_map g rack.rows } =
    e
    ∙ ap (λ (rows : List Row). record rack { rows = rows }) (given-all line takers change answers rack.rows rising)
    in
    let p = is_copy master line in
    let found : find p (filter_map g rack.rows) ≡ find p rack.rows =
    find-kept p g (λ row k.
    kept-all rack master line takers change answers row h
    (number-is row.board master (both-first (row.board == master) _ k)))
    (gone-all p (λ row s w. refl) line takers change answers) rack.rows in
    let none : IsFalse (has_row rack.rows master line) =
    sym (ap (λ (r : Rack). has_row r.rows master line) is ∙ ap is_some found) ∙ absent in
    ap (λ (r : Rack). can_fill (setup_of r) r.rows master line) is
    ∙ shape-kept (shape_of (setup_of rack) master) rack master line takers change answers h
    ∙ room none held
