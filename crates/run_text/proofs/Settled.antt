-- The lines of a grant: the boards that compete are a contest, which settles to the highest number in at most nine
-- rounds.
use Rattle.std.proofs.Common.{◌≡◌, ◌≢◌, ℕ, zero, suc, ◌+◌, ◌<◌, ◌≤◌, Bool, true, false, cond, List, [], ◌∷◌, length, map, refl, sym, ap, ◌∙◌, subst, arith, inl, inr, ◌⊎◌, unwrap_or, option_map}
use Rattle.std.specs.Prelude.{All, filter, ◌==◌}
use Rattle.std.specs.List.{AllByRecursion}
use Rattle.std.proofs.lemmas.Bool.{eqb-true, eqb-false, cases_lt}
use Rattle.bus_model.specs.Settling.{lines_after, settled_rounds, settled_lines, highest}
use Rattle.arbiter.specs.Contests.{IsNumber, IsContest}
use Rattle.arbiter.proofs.Members as members
use Rattle.arbiter.proofs.Settles.{Found, first_is, few_rounds, found_rounds, found_lines, found_highest}
use Rattle.bus_model.specs.Places.{at_place, places_from}
use Rattle.bus_model.specs.Setup.{Setup, WellFormed, BoardSpec, board_places, number_of}
use Rattle.bus_model.specs.Configuration.{Arbitration, Progress}
use Rattle.bus_model.specs.Arbitration.{competing, competing_numbers, does_compete}
use Rattle.coherence.proofs.Competing.{competes_raised, raised_in}
use Rattle.coherence.proofs.Lists.{In, in-all, all-in, in-filter, filter-in, in-map, map-in, empty-none}
use Rattle.coherence.proofs.Places.{IsPlace, in-places}
use Rattle.coherence.proofs.Cells.{spec_there}

-- What holds of each element holds at each index.
all-index : {X : Type 0} (P : X → Type 0) (xs : List X) → AllByRecursion P xs → All P xs
all-index P [] h i d less = absurd (omega (arith, less))
all-index P (x ∷ xs) h zero d less = h.0
all-index P (x ∷ xs) h (suc i) d less = all-index P xs h.1 i d (omega (arith, less))

length-filter : {X : Type 0} (p : X → Bool) (xs : List X) → length (filter p xs) ≤ length xs
length-filter p [] = omega arith
length-filter p (x ∷ xs) = go (p x) (length-filter p xs)
  where
    go :
        (b : Bool) → length (filter p xs) ≤ length xs
        → length (cond b (x ∷ filter p xs) (filter p xs)) ≤ suc (length xs)
    go true h = omega (arith, h)
    go false h = omega (arith, h)

length-map : {X Y : Type 0} (f : X → Y) (xs : List X) → length (map f xs) ≡ length xs
length-map f [] = refl
length-map f (x ∷ xs) = ap suc (length-map f xs)

pub length-places : {X : Type 0} (k : ℕ) (xs : List X) → length (places_from k xs) ≡ length xs
length-places k [] = refl
length-places k (x ∷ xs) = ap suc (length-places (suc k) xs)

pub place-in : (setup : Setup) (board : ℕ) → In board (board_places setup) → IsPlace (length setup.boards) board
place-in setup board there =
    let r = in-places setup.boards 1 board there in
    record { low = r.0; high = omega (arith, r.1) }

number_is :
    (setup : Setup) (board : ℕ) → WellFormed setup → IsPlace (length setup.boards) board
    → IsNumber (number_of setup board)
number_is setup board well there =
    let r = spec_there setup board well there in
    let same : number_of setup board ≡ r.0.number =
    ap (λ o. unwrap_or (option_map (λ (spec : BoardSpec). spec.number) o) 0) r.1 in
    subst IsNumber (sym same) (r.2.number_low, r.2.number_high)

numbers_are :
    (setup : Setup) (boards : List ℕ) → WellFormed setup → AllByRecursion (IsPlace (length setup.boards)) boards
    → AllByRecursion IsNumber (map (λ board. number_of setup board) boards)
numbers_are setup [] well h = tt
numbers_are setup (b ∷ boards) well h = (number_is setup b well h.0, numbers_are setup boards well h.1)

-- The boards that compete are a contest, if there is one.
pub contest :
    (setup : Setup) (a : Arbitration) (boards : List Progress) (winner : ℕ) → WellFormed setup
    → length boards ≡ length setup.boards → does_compete a boards winner ≡ true
    → IsContest (competing_numbers setup a boards)
contest setup a boards winner well long competes =
    let here : In winner (competing a boards) =
    filter-in (does_compete a boards) (places_from 1 boards) winner
    (raised_in boards winner (competes_raised a boards winner competes)) competes in
    let each : AllByRecursion (IsPlace (length setup.boards)) (competing a boards) =
    all-in (IsPlace (length setup.boards)) (competing a boards)
    (λ b m.
    let r = in-places boards 1 b (in-filter (does_compete a boards) (places_from 1 boards) b m).0 in
    record { low = r.0; high = omega (arith, r.1, long) }) in
    let few : length (competing a boards) ≤ length (places_from 1 boards) =
    length-filter (does_compete a boards) (places_from 1 boards) in
    let places : length (places_from 1 boards) ≡ length boards = length-places 1 boards in
    let same : length (competing_numbers setup a boards) ≡ length (competing a boards) =
    length-map (λ board. number_of setup board) (competing a boards) in
    let one : 1 ≤ length (competing a boards) = some_length (competing a boards) winner here in
    record {
      some = omega (arith, one, same);
      most = omega (arith, few, places, long, same, well.boards_high);
      each =
          all-index IsNumber (competing_numbers setup a boards) (numbers_are setup (competing a boards) well each);
    }
  where
    some_length : (xs : List ℕ) (x : ℕ) → In x xs → 1 ≤ length xs
    some_length [] x m = absurd m
    some_length (y ∷ ys) x m = omega arith

-- A first round from this one on that changes nothing.
search :
    (numbers : List ℕ) → IsContest numbers → (tries k : ℕ) → k + tries ≡ 10
    → ((i : ℕ) → i < k → lines_after numbers (suc i) ≢ lines_after numbers i) → k ≤ 9
    → (r : ℕ) × Found numbers (lines_after numbers r) r
search numbers c zero k e before within = absurd (omega (arith, e, within))
search numbers c (suc tries) k e before within =
    go (lines_after numbers (suc k) == lines_after numbers k) refl
    (λ changed.
    search numbers c tries (suc k) (omega (arith, e)) (λ i less. at i (cases_lt i k) less changed)
    (omega (arith, few_rounds numbers c k within changed)))
  where
    at :
        (i : ℕ) → (i < k) ⊎ (k ≤ i) → i < suc k → lines_after numbers (suc k) ≢ lines_after numbers k
        → lines_after numbers (suc i) ≢ lines_after numbers i
    at i (inl h) less changed = before i h
    at i (inr h) less changed =
        let same : k ≡ i = omega (arith, h, less) in
        subst (λ (j : ℕ). lines_after numbers (suc j) ≢ lines_after numbers j) same changed

    go :
        (b : Bool) → (lines_after numbers (suc k) == lines_after numbers k) ≡ b
        → (lines_after numbers (suc k) ≢ lines_after numbers k → (r : ℕ) × Found numbers (lines_after numbers r) r)
        → (r : ℕ) × Found numbers (lines_after numbers r) r
    go true same later = (
      k,
      record {
        shown = refl;
        within = within;
        differ = before;
        stays = eqb-true (lines_after numbers (suc k)) (lines_after numbers k) same;
      },
    )
    go false other later = later (eqb-false (lines_after numbers (suc k)) (lines_after numbers k) other)

-- The lines of a contest are a number of a board, and come in at most nine rounds.
pub record IsSettled (numbers : List ℕ) : Type 0 where
  pub low : 1 ≤ settled_lines numbers
  pub high : settled_lines numbers ≤ 1023
  pub rounds : settled_rounds numbers ≤ 9

pub settled : (numbers : List ℕ) → IsContest numbers → IsSettled numbers
settled numbers c =
    let r = search numbers c 10 0 refl (λ i less. absurd (omega (arith, less))) (omega arith) in
    let rounds : r.0 ≡ settled_rounds numbers = found_rounds numbers c (lines_after numbers r.0) r.0 r.1 in
    let lines : lines_after numbers r.0 ≡ settled_lines numbers =
    found_lines numbers c (lines_after numbers r.0) r.0 r.1 in
    let shown : lines_after numbers r.0 ≡ highest numbers = found_highest numbers c (lines_after numbers r.0) r.0 r.1 in
    let number = listed numbers c.each (highest numbers) (members.highest-in numbers c.some) in
    record {
      low = omega (arith, lines, shown, number.0);
      high = omega (arith, lines, shown, number.1);
      rounds = omega (arith, rounds, r.1.within);
    }
  where
    listed : (xs : List ℕ) → All IsNumber xs → (x : ℕ) → members.In x xs → IsNumber x
    listed [] each x there = absurd there
    listed (y ∷ ys) each x (inl e) = subst IsNumber (sym e) (each 0 y (omega arith))
    listed (y ∷ ys) each x (inr there) = listed ys (λ i d less. each (suc i) d (omega (arith, less))) x there
