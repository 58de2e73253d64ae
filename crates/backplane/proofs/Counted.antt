-- The counts of the boards are below the ends of their types.
use Rattle.std.proofs.Common.{◌≡◌, ℕ, zero, suc, ◌+◌, ◌^◌, ◌<◌, ◌≤◌, Bool, true, false, cond, List, [], ◌∷◌, length, map, get_or, refl, ap, arith}
use Rattle.std.specs.Prelude.{slice_get, unwrap_or, filter}
use Rattle.bus_signals.specs.declared.BusEvent.{BusEvent}
use Rattle.moesi_state.specs.declared.Outcome.{Outcome}
use Rattle.moesi_state.specs.declared.State.{State}
use Rattle.moesi_state.specs.States.{holds}
use Rattle.bus_model.specs.Places.{change_index, change_place, places_from}
use Rattle.bus_model.specs.Setup.{board_places}
use Rattle.bus_model.specs.Events.{Answer, Transaction}
use Rattle.bus_model.specs.Connecting.{other_holders}
use Rattle.bus_model.specs.Configuration.{has_row}
use Rattle.board.specs.Rack.{Rack, Counts, CountsFit, counts_at, no_counts, one_more_spent, one_more_fill, rack_put, rack_changed, rack_filled, setup_of}
use Rattle.connect_phase.specs.Answering.{SpentBelow, answered_counts, rack_answered, connected_by, answer_from, is_other_holder}
use Rattle.backplane.specs.Parts.{PlacesFit}

fills-index :
    (counts : List Counts) (k : ℕ) → CountsFit counts → (unwrap_or (slice_get counts k) no_counts).fills < 2 ^ 63
fills-index [] k fit = omega arith
fills-index (n ∷ counts) zero fit = fit.0.0
fills-index (n ∷ counts) (suc k) fit = fills-index counts k fit.1

pub fills-low : (counts : List Counts) (b : ℕ) → CountsFit counts → (counts_at counts b).fills < 2 ^ 63
fills-low counts zero fit = omega arith
fills-low counts (suc k) fit = fills-index counts k fit

spent-index :
    (counts : List Counts) (k : ℕ) → CountsFit counts → (unwrap_or (slice_get counts k) no_counts).spent < 2 ^ 63
spent-index [] k fit = omega arith
spent-index (n ∷ counts) zero fit = fit.0.1
spent-index (n ∷ counts) (suc k) fit = spent-index counts k fit.1

pub spent-low : (counts : List Counts) (b : ℕ) → CountsFit counts → (counts_at counts b).spent < 2 ^ 63
spent-low counts zero fit = omega arith
spent-low counts (suc k) fit = spent-index counts k fit

pub spent-below : (counts : List Counts) → CountsFit counts → SpentBelow (2 ^ 63) counts
spent-below [] fit = tt
spent-below (n ∷ counts) fit = (fit.0.1, spent-below counts fit.1)

pub place-low : (places : List ℕ) (k y : ℕ) → k < length places → PlacesFit places → y ≡ get_or places k y → y < 2 ^ 31
place-low [] k y l fit e = absurd (omega arith)
place-low (n ∷ places) zero y l fit e = let low = fit.0 in omega (arith, low, e)
place-low (n ∷ places) (suc k) y l fit e = place-low places k y (omega arith) fit.1 e

filled-spent-index :
    (counts : List Counts) (k : ℕ)
    → (unwrap_or (slice_get (change_index one_more_fill counts k) k) no_counts).spent
    ≡ (unwrap_or (slice_get counts k) no_counts).spent
filled-spent-index [] k = refl
filled-spent-index (n ∷ counts) zero = refl
filled-spent-index (n ∷ counts) (suc k) = filled-spent-index counts k

filled-spent :
    (counts : List Counts) (b : ℕ)
    → (counts_at (change_place one_more_fill counts b) b).spent ≡ (counts_at counts b).spent
filled-spent counts zero = refl
filled-spent counts (suc k) = filled-spent-index counts k

put-keeps-spent : (here held : Bool) (rack : Rack) (b l : ℕ) (state : State) (words : List ℕ)
    → (counts_at
    (cond here (rack_changed rack b l state words) (cond held (rack_filled rack b l state words) rack)).counts
    b).spent ≡ (counts_at rack.counts b).spent
put-keeps-spent true held rack b l state words = refl
put-keeps-spent false true rack b l state words = filled-spent rack.counts b
put-keeps-spent false false rack b l state words = refl

-- A copy that is put spends no draw.
pub spent-put :
    (rack next : Rack) (b l : ℕ) (state : State) (words : List ℕ) → next ≡ rack_put rack b l state words
    → (counts_at next.counts b).spent ≡ (counts_at rack.counts b).spent
spent-put rack next b l state words e =
    rw e (put-keeps-spent (has_row rack.rows b l) (holds state) rack b l state words)

spent-once-index :
    (counts : List Counts) (a b : ℕ)
    → (unwrap_or (slice_get (change_index one_more_spent counts a) b) no_counts).spent
    ≤ (unwrap_or (slice_get counts b) no_counts).spent + 1
spent-once-index [] a b = omega arith
spent-once-index (n ∷ counts) zero zero = omega arith
spent-once-index (n ∷ counts) zero (suc b) = omega arith
spent-once-index (n ∷ counts) (suc a) zero = omega arith
spent-once-index (n ∷ counts) (suc a) (suc b) = spent-once-index counts a b

spent-once :
    (counts : List Counts) (a b : ℕ)
    → (counts_at (change_place one_more_spent counts a) b).spent ≤ (counts_at counts b).spent + 1
spent-once counts zero b = omega arith
spent-once counts (suc a) zero = omega arith
spent-once counts (suc a) (suc b) = spent-once-index counts a b

answered-low :
    (answers : List Answer) (counts : List Counts) (b : ℕ)
    → (counts_at (answered_counts counts answers) b).spent ≤ (counts_at counts b).spent + length answers
answered-low [] counts b = omega arith
answered-low (a ∷ rest) counts b =
    let one = spent-once counts a.board b in
    let more = answered-low rest (change_place one_more_spent counts a.board) b in
    omega (arith, one, more)

-- Few answers leave each board's draws below the end of their type.
pub answered-fits :
    (rack next : Rack) (answers : List Answer) (b : ℕ) → next ≡ rack_answered rack answers → length answers ≤ 16
    → CountsFit rack.counts → suc (counts_at next.counts b).spent < 2 ^ 64
answered-fits rack next answers b e few fit =
    let low = spent-low rack.counts b fit in
    let more = answered-low answers rack.counts b in
    rw e (omega (arith, low, more))

pub length-places : {X : Type 0} (xs : List X) (k : ℕ) → length (places_from k xs) ≡ length xs
length-places [] k = refl
length-places (x ∷ xs) k = ap suc (length-places xs (suc k))

pub length-filtered : {X : Type 0} (p : X → Bool) (xs : List X) → length (filter p xs) ≤ length xs
length-filtered p [] = omega arith
length-filtered p (x ∷ xs) = go (p x) (length-filtered p xs)
  where
    go :
        (b : Bool) → length (filter p xs) ≤ length xs
        → length (cond b (x ∷ filter p xs) (filter p xs)) ≤ suc (length xs)
    go true rest = omega arith
    go false rest = omega arith

pub length-mapped : {X Y : Type 0} (f : X → Y) (xs : List X) → length (map f xs) ≡ length xs
length-mapped f [] = refl
length-mapped f (x ∷ xs) = ap suc (length-mapped f xs)

-- A transaction has few answers.
pub few-answers :
    (rack : Rack) (master line : ℕ) (event : BusEvent) (outcome : Outcome) (t : Transaction)
    → t ≡ connected_by rack master line event outcome → length rack.specs ≤ 16 → length t.answers ≤ 16
few-answers rack master line event outcome t e few =
    let others = other_holders (setup_of rack) rack.rows master line in
    let one = length-mapped (answer_from rack line event) others in
    let two = length-filtered (is_other_holder rack.rows master line) (board_places (setup_of rack)) in
    let three = length-places rack.specs 1 in
    rw e (omega (arith, one, two, three))
