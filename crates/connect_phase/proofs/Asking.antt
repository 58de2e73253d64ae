-- The answers, board by board.
use Rattle.std.proofs.Common.{◌≡◌, ℕ, zero, suc, ◌+◌, ◌<◌, ◌≤◌, Bool, true, false, cond, List, [], ◌∷◌, ◌++◌, length, map, take, refl, ap, sym, ◌∙◌, arith, add-one, inl, inr}
use Rattle.std.proofs.lemmas.Bool.{cases_lt}
use Rattle.std.specs.Prelude.{filter}
use Rattle.std.proofs.lemmas.List.{map-append, take_all}
use Rattle.std.proofs.lemmas.List.Elements.{filter-append}
use Rattle.bus_signals.specs.declared.BusEvent.{BusEvent}
use Rattle.bus_model.specs.Places.{places_from}
use Rattle.bus_model.specs.Setup.{BoardSpec}
use Rattle.bus_model.specs.Connecting.{other_holders}
use Rattle.bus_model.specs.Events.{Answer}
use Rattle.journal.specs.Rising.{IsAboveLast}
use Rattle.journal.specs.Boards.{answer_boards}
use Rattle.board.specs.Rack.{Rack, setup_of}
use Rattle.connect_phase.specs.Answering.{answer_from, is_other_holder, holders_among, AllBelow, AllAreBoards}

pub above-last : (xs : List ℕ) (n : ℕ) → AllBelow n xs → IsAboveLast xs n
above-last [] n h = tt
above-last (x ∷ []) n h = h.0
above-last (x ∷ y ∷ xs) n h = above-last (y ∷ xs) n h.1

pub below-more : (xs : List ℕ) (n : ℕ) → AllBelow n xs → AllBelow (suc n) xs
below-more [] n h = tt
below-more (x ∷ xs) n h = (let b = h.0 in omega arith, below-more xs n h.1)

pub below-push :
    (answers : List Answer) (a : Answer) (n : ℕ) → a.board ≡ n → AllBelow n (answer_boards answers)
    → AllBelow (suc n) (answer_boards (answers ++ a ∷ []))
below-push [] a n e h = (omega arith, tt)
below-push (x ∷ xs) a n e h = (let b = h.0 in omega arith, below-push xs a n e h.1)

length-places : (k : ℕ) (specs : List BoardSpec) → length (places_from k specs) ≡ length specs
length-places k [] = refl
length-places k (x ∷ specs) = let h = length-places (suc k) specs in omega arith

places-more :
    (k n : ℕ) (specs : List BoardSpec) → n < length specs
    → take (suc n) (places_from k specs) ≡ take n (places_from k specs) ++ (k + n) ∷ []
places-more k n [] h = absurd (omega arith)
places-more k zero (x ∷ specs) h = let e : k + zero ≡ k = omega arith in rw e refl
places-more k (suc n) (x ∷ specs) h =
    let e : k + suc n ≡ suc k + n = omega arith in
    rw e (ap (λ (r : List ℕ). k ∷ r) (places-more (suc k) n specs (omega arith)))

pub holders-more : (rack : Rack) (master line n : ℕ) → n < length rack.specs
    → holders_among rack master line (suc n)
    ≡ holders_among rack master line n ++ filter (is_other_holder rack.rows master line) (suc n ∷ [])
holders-more rack master line n h =
    ap (filter (is_other_holder rack.rows master line))
    (places-more 1 n rack.specs h ∙ ap (λ (k : ℕ). take n (places_from 1 rack.specs) ++ k ∷ []) (omega arith))
    ∙ filter-append (is_other_holder rack.rows master line) (take n (places_from 1 rack.specs)) (suc n ∷ [])

pub answers-more :
    (rack : Rack) (master line n b : ℕ) (event : BusEvent) (answers more : List Answer) → n < length rack.specs
    → b ≡ suc n
    → answers ≡ map (answer_from rack line event) (holders_among rack master line n)
    → more ≡ answers ++ map (answer_from rack line event) (filter (is_other_holder rack.rows master line) (b ∷ []))
    → more ≡ map (answer_from rack line event) (holders_among rack master line (n + 1))
answers-more rack master line n b event answers more h is e m =
    m
    ∙ ap (λ (r : List Answer).
    r ++ map (answer_from rack line event) (filter (is_other_holder rack.rows master line) (b ∷ []))) e
    ∙ ap (λ (k : ℕ).
    map (answer_from rack line event) (holders_among rack master line n)
    ++ map (answer_from rack line event) (filter (is_other_holder rack.rows master line) (k ∷ []))) is
    ∙ sym (map-append (answer_from rack line event) (holders_among rack master line n)
    (filter (is_other_holder rack.rows master line) (suc n ∷ [])))
    ∙ ap (map (answer_from rack line event))
    (sym (holders-more rack master line n h) ∙ ap (holders_among rack master line) (sym (add-one n)))

pub holders-all :
    (rack : Rack) (master line n : ℕ) → length rack.specs ≤ n
    → holders_among rack master line n ≡ other_holders (setup_of rack) rack.rows master line
holders-all rack master line n h =
    ap (filter (is_other_holder rack.rows master line))
    (take_all n (places_from 1 rack.specs) (omega (arith, length-places 1 rack.specs)))

-- The answering boards are boards of the rack.

abbrev within : ℕ → ℕ → List ℕ → Type 0
within low high [] = Unit {0}
within low high (x ∷ xs) = ((low ≤ x) × (x ≤ high)) × within low high xs

places-within : (k n : ℕ) (specs : List BoardSpec) → 1 ≤ k → k + length specs ≤ suc n → within 1 n (places_from k specs)
places-within k n [] l h = tt
places-within k n (x ∷ specs) l h = ((l, omega arith), places-within (suc k) n specs (omega arith) (omega arith))

filter-within-by :
    (n x : ℕ) (t : Bool) (xs : List ℕ) → (1 ≤ x) × (x ≤ n) → within 1 n xs → within 1 n (cond t (x ∷ xs) xs)
filter-within-by n x true xs h k = (h, k)
filter-within-by n x false xs h k = k

filter-within : (n : ℕ) (p : ℕ → Bool) (xs : List ℕ) → within 1 n xs → within 1 n (filter p xs)
filter-within n p [] h = tt
filter-within n p (x ∷ xs) h = filter-within-by n x (p x) _ h.0 (filter-within n p xs h.1)

are-boards :
    (rack : Rack) (line : ℕ) (event : BusEvent) (xs : List ℕ) → within 1 (length rack.specs) xs
    → AllAreBoards rack (map (answer_from rack line event) xs)
are-boards rack line event [] h = tt
are-boards rack line event (x ∷ xs) h = (record { low = h.0.0; high = h.0.1 }, are-boards rack line event xs h.1)

pub answers-are-boards : (rack : Rack) (master line : ℕ) (event : BusEvent)
    → AllAreBoards rack (map (answer_from rack line event) (other_holders (setup_of rack) rack.rows master line))
answers-are-boards rack master line event =
    are-boards rack line event _
    (filter-within (length rack.specs) (is_other_holder rack.rows master line) _
    (places-within 1 (length rack.specs) rack.specs (omega arith) (omega arith)))

pub fewer-more :
    (place master old new : ℕ) → (master ≤ place → old + 1 ≤ place) → old ≤ place → new ≤ old + 1
    → (place + 1 ≡ master → new ≤ old)
    → master ≤ place + 1 → new + 1 ≤ place + 1
fewer-more place master old new fewer few one none h =
    elim (cases_lt place master)
    [ inl g ↦ (let n = none (omega arith) in omega arith) | inr g ↦ (let f = fewer g in omega arith) ]
