-- The answers one after another: those that capture, and those before one.
use Rattle.std.proofs.Common.{◌≡◌, ℕ, zero, suc, ◌+◌, ◌<◌, ◌≤◌, Bool, true, false, cond, List, [], ◌∷◌, ◌++◌, length, get_or, map, take, refl, ap, sym, ◌∙◌, arith}
use Rattle.std.specs.Prelude.{filter}
use Rattle.std.proofs.lemmas.List.{take_more, map-append, length-take, append-nil}
use Rattle.std.proofs.lemmas.List.Elements.{filter-append}
use Rattle.journal.specs.Rising.{IsRising, IsAboveLast, IsAboveRest}
use Rattle.journal.specs.Boards.{answer_boards, state_boards}
use Rattle.moesi_state.specs.declared.State.{State}
use Rattle.bus_model.specs.Events.{Answer}
use Rattle.bus_model.specs.Connecting.{capturers}
use Rattle.connect_phase.specs.Answering.{AllBelow}
use Rattle.connect_phase.proofs.Asking.{above-last}

abbrev captures : Answer → Bool
captures a = a.action.response.sl

abbrev if_captures : Answer → List ℕ
if_captures a = map (λ (x : Answer). x.board) (cond (captures a) (a ∷ []) [])

pub capturers-more : (answers : List Answer) (i : ℕ) (d : Answer) → i < length answers
    → capturers (take (i + 1) answers) ≡ capturers (take i answers) ++ if_captures (get_or answers i d)
capturers-more answers i d l =
    ap capturers (take_more answers i d l)
    ∙ ap (map (λ (x : Answer). x.board)) (filter-append captures (take i answers) (get_or answers i d ∷ []))
    ∙ map-append (λ (x : Answer). x.board) (filter captures (take i answers))
    (cond (captures (get_or answers i d)) (get_or answers i d ∷ []) [])

pub capturers-taken :
    (answers : List Answer) (i : ℕ) (a : Answer) (boards : List ℕ) → i < length answers → a ≡ get_or answers i a
    → captures a ≡ true
    → boards ≡ capturers (take i answers) → boards ++ a.board ∷ [] ≡ capturers (take (i + 1) answers)
capturers-taken answers i a boards l is h e =
    ap (λ (r : List ℕ). r ++ a.board ∷ []) e
    ∙ ap (λ (t : Bool). capturers (take i answers) ++ map (λ (x : Answer). x.board) (cond t (a ∷ []) [])) (sym h)
    ∙ ap (λ (x : Answer). capturers (take i answers) ++ if_captures x) is
    ∙ sym (capturers-more answers i a l)

pub capturers-passed :
    (answers : List Answer) (i : ℕ) (a : Answer) (boards : List ℕ) → i < length answers → a ≡ get_or answers i a
    → captures a ≡ false
    → boards ≡ capturers (take i answers) → boards ≡ capturers (take (i + 1) answers)
capturers-passed answers i a boards l is h e =
    e ∙ sym (append-nil (capturers (take i answers)))
    ∙ ap (λ (t : Bool). capturers (take i answers) ++ map (λ (x : Answer). x.board) (cond t (a ∷ []) [])) (sym h)
    ∙ ap (λ (x : Answer). capturers (take i answers) ++ if_captures x) is
    ∙ sym (capturers-more answers i a l)

-- Boards before one that rise to it.

rising-tail : (x : ℕ) (xs : List ℕ) → IsRising (x ∷ xs) → IsRising xs
rising-tail x [] h = tt
rising-tail x (y ∷ xs) h = h.1

rising-first :
    (x : ℕ) (answers : List Answer) (i : ℕ) (d : Answer) → i < length answers → IsRising (x ∷ answer_boards answers)
    → x < (get_or answers i d).board
rising-first x [] i d l h = absurd (omega arith)
rising-first x (a ∷ answers) zero d l h = h.0
rising-first x (a ∷ answers) (suc i) d l h =
    let f = rising-first a.board answers i d (omega arith) h.1 in let g = h.0 in omega arith

pub before-below : (answers : List Answer) (i : ℕ) (d : Answer) → i < length answers → IsRising (answer_boards answers)
    → AllBelow (get_or answers i d).board (answer_boards (take i answers))
before-below [] i d l h = absurd (omega arith)
before-below (a ∷ answers) zero d l h = tt
before-below (a ∷ answers) (suc i) d l h = (
  rising-first a.board answers i d (omega arith) h,
  before-below answers i d (omega arith) (rising-tail a.board (answer_boards answers) h),
)

capturers-below-by :
    (n : ℕ) (t : Bool) (a : Answer) (xs : List Answer) → a.board < n → AllBelow n (map (λ (x : Answer). x.board) xs)
    → AllBelow n (map (λ (x : Answer). x.board) (cond t (a ∷ xs) xs))
capturers-below-by n true a xs h k = (h, k)
capturers-below-by n false a xs h k = k

pub capturers-below :
    (n : ℕ) (answers : List Answer) → AllBelow n (answer_boards answers) → AllBelow n (capturers answers)
capturers-below n [] h = tt
capturers-below n (a ∷ answers) h = capturers-below-by n (captures a) a _ h.0 (capturers-below n answers h.1)

pub capturers-above :
    (answers : List Answer) (i : ℕ) (a : Answer) (boards : List ℕ) → i < length answers → a ≡ get_or answers i a
    → IsRising (answer_boards answers)
    → boards ≡ capturers (take i answers) → IsAboveLast boards a.board
capturers-above answers i a boards l is rising e =
    let b : AllBelow (get_or answers i a).board (capturers (take i answers)) =
    capturers-below _ (take i answers) (before-below answers i a l rising) in
    rw (e, is) (above-last _ _ b)

length-capturers-by :
    (t : Bool) (a : Answer) (xs : List Answer) (n : ℕ) → length (map (λ (x : Answer). x.board) xs) ≤ n
    → length (map (λ (x : Answer). x.board) (cond t (a ∷ xs) xs)) ≤ suc n
length-capturers-by true a xs n h = omega arith
length-capturers-by false a xs n h = omega arith

length-capturers : (answers : List Answer) → length (capturers answers) ≤ length answers
length-capturers [] = omega arith
length-capturers (a ∷ answers) =
    length-capturers-by (captures a) a (filter captures answers) (length answers) (length-capturers answers)

pub capturers-few :
    (answers : List Answer) (i : ℕ) (boards : List ℕ) → i < length answers → length answers ≤ 15
    → boards ≡ capturers (take i answers) → length boards < 16
capturers-few answers i boards l few e = rw e (omega (arith, length-capturers (take i answers), length-take i answers))

state-boards :
    (answers : List Answer)
    → state_boards (map (λ (a : Answer). (a.board, a.action.result)) answers) ≡ answer_boards answers
state-boards [] = refl
state-boards (a ∷ answers) = ap (λ (r : List ℕ). a.board ∷ r) (state-boards answers)

pub states-above :
    (answers : List Answer) (i : ℕ) (a : Answer) (first : ℕ × State) → i < length answers → a ≡ get_or answers i a
    → IsRising (answer_boards answers)
    → IsAboveRest (state_boards (first ∷ map (λ (x : Answer). (x.board, x.action.result)) (take i answers))) a.board
states-above answers i a first l is rising =
    let b = before-below answers i a l rising in
    rw (state-boards (take i answers), is) (above-last _ _ b)

pub states-more :
    (answers : List Answer) (i : ℕ) (a : Answer) (first : ℕ × State) → i < length answers → a ≡ get_or answers i a
    → (first ∷ map (λ (x : Answer). (x.board, x.action.result)) (take i answers)) ++ (a.board, a.action.result) ∷ []
    ≡ first ∷ map (λ (x : Answer). (x.board, x.action.result)) (take (i + 1) answers)
states-more answers i a first l is =
    ap (λ (x : Answer).
    (first ∷ map (λ (y : Answer). (y.board, y.action.result)) (take i answers)) ++ (x.board, x.action.result)
    ∷ []) is
    ∙ ap (λ (r : List (ℕ × State)). first ∷ r)
    (sym (ap (map (λ (y : Answer). (y.board, y.action.result))) (take_more answers i a l)
    ∙ map-append (λ (y : Answer). (y.board, y.action.result)) (take i answers) (get_or answers i a ∷ [])))
