-- The text of every run is short enough for a trace.
use Rattle.std.proofs.Common.{◌≡◌, ℕ, zero, suc, ◌+◌, ◌*◌, ◌<◌, ◌≤◌, Bool, true, false, cond, List, [], ◌∷◌, ◌++◌, length, Option, Some, None, refl, arith, length-append}
use Rattle.std.specs.Prelude.{codes, ◌==◌}
use Rattle.std.specs.List.{AllByRecursion, flat_map}
use Rattle.std.proofs.lemmas.Bool.{eqb-true, ne_eqb}
use Rattle.std.proofs.lemmas.List.Concat.{flat_map-cons}
use Rattle.fb_text.specs.Written.{line_bytes}
use Rattle.trace_text.specs.Spelling.{line_of_event}
use Rattle.trace_text.specs.Ranges.{InRange}
use Rattle.trace_text.proofs.Lengths.{line_length}
use Rattle.bus_model.specs.Places.{count_where, places_from}
use Rattle.bus_model.specs.Setup.{Setup, board_places, line_count}
use Rattle.bus_model.specs.Events.{Event}
use Rattle.bus_model.specs.Configuration.{Configuration, Row, opening, row_at}
use Rattle.bus_model.specs.Runs.{after_all}
use Rattle.bus_model.specs.Laws.{JournalBound}
use Rattle.bus_model.specs.Entries.{Entry, entries, entries_of}
use Rattle.run_text.specs.Lines.{numbers_below, entry_line, row_text}
use Rattle.run_text.specs.RunText.{board_replies, replies_text, memory_of, all_memory, copy_of, board_copies, all_copies, events_text}
use Rattle.run_text.specs.Lengths.{RunTextsFit}
use Rattle.run_text.proofs.LineLengths.{EntryFits, entry_short, memory_short, copy_short}
use Rattle.run_text.proofs.ShortWords.{all-filter, all-more, HasWords, row_few, memory_few, all_words, opening_words, all_entries}

-- Texts none of which has more than this many bytes.
flat_short :
    {X : Type 0} (f : X → List ℕ) (most : ℕ) (xs : List X) → AllByRecursion (λ x. length (f x) ≤ most) xs
    → length (flat_map f xs) ≤ most * length xs
flat_short f most [] h = omega arith
flat_short f most (x ∷ xs) h =
    rw (flat_map-cons f x xs) (omega (arith, length-append (f x) (flat_map f xs), h.0, flat_short f most xs h.1))

all_of :
    {X : Type 0} (P Q : X → Type 0) → ((x : X) → P x → Q x) → (xs : List X) → AllByRecursion P xs → AllByRecursion Q xs
all_of P Q f [] h = tt
all_of P Q f (x ∷ xs) h = (f x h.0, all_of P Q f xs h.1)

-- ---- numbers and places

length-numbers : (n : ℕ) → length (numbers_below n) ≡ n
length-numbers zero = refl
length-numbers (suc n) = let h = length-numbers n in let l = length-append (numbers_below n) (n ∷ []) in omega arith

all-numbers : (P : ℕ → Type 0) (n : ℕ) → ((k : ℕ) → k < n → P k) → AllByRecursion P (numbers_below n)
all-numbers P zero h = tt
all-numbers P (suc n) h =
    all-more P (numbers_below n) n (all-numbers P n (λ k less. h k (omega (arith, less)))) (h n (omega arith))

length-places : {X : Type 0} (k : ℕ) (xs : List X) → length (places_from k xs) ≡ length xs
length-places k [] = refl
length-places k (x ∷ xs) = let h = length-places (suc k) xs in omega arith

all-places :
    {X : Type 0} (P : ℕ → Type 0) (k : ℕ) (xs : List X) → ((b : ℕ) → b < k + length xs → P b)
    → AllByRecursion P (places_from k xs)
all-places P k [] h = tt
all-places P k (x ∷ xs) h = (h k (omega arith), all-places P (suc k) xs (λ b less. h b (omega (arith, less))))

-- No place below the first one is among the places.
none-before : {X : Type 0} (k b : ℕ) (xs : List X) → b < k → count_where (λ x. b == x) (places_from k xs) ≡ 0
none-before k b [] less = refl
none-before k b (x ∷ xs) less =
    let other : (b == k) ≡ false = ne_eqb b k (λ e. omega (arith, e, less)) in
    let rest = none-before (suc k) b xs (omega (arith, less)) in
    rw other (omega (arith, rest))

-- Each place occurs at most once among the places.
once : {X : Type 0} (k b : ℕ) (xs : List X) → count_where (λ x. b == x) (places_from k xs) ≤ 1
once k b [] = omega arith
once k b (x ∷ xs) = go (b == k) refl (once (suc k) b xs)
  where
    go :
        (t : Bool) → (b == k) ≡ t → count_where (λ x. b == x) (places_from (suc k) xs) ≤ 1
        → cond t 1 0 + count_where (λ x. b == x) (places_from (suc k) xs) ≤ 1
    go true e rest =
        let same : b ≡ k = eqb-true b k e in
        let none = none-before (suc k) b xs (omega (arith, same)) in omega (arith, none)
    go false e rest = omega (arith, rest)

-- ---- replies

-- The entries of each of these boards.
abbrev counted : List ℕ → List Entry → ℕ
counted [] history = 0
counted (b ∷ bs) history = length (entries_of b history) + counted bs history

counted_more :
    (bs : List ℕ) (e : Entry) (history : List Entry)
    → counted bs (e ∷ history) ≡ count_where (λ b. e.board == b) bs + counted bs history
counted_more [] e history = refl
counted_more (b ∷ bs) e history = go (e.board == b) (counted_more bs e history)
  where
    go : (t : Bool) → counted bs (e ∷ history) ≡ count_where (λ b. e.board == b) bs + counted bs history
        → length (cond t (e ∷ entries_of b history) (entries_of b history)) + counted bs (e ∷ history)
        ≡ cond t 1 0 + count_where (λ b. e.board == b) bs + (length (entries_of b history) + counted bs history)
    go true rest = omega (arith, rest)
    go false rest = omega (arith, rest)

counted_none : (bs : List ℕ) → counted bs [] ≡ 0
counted_none [] = refl
counted_none (b ∷ bs) = let h = counted_none bs in omega arith

counted_within :
    (bs : List ℕ) → ((b : ℕ) → count_where (λ x. b == x) bs ≤ 1) → (history : List Entry)
    → counted bs history ≤ length history
counted_within bs each [] = let h = counted_none bs in omega arith
counted_within bs each (e ∷ history) =
    let rest = counted_within bs each history in
    let more = counted_more bs e history in omega (arith, each e.board, rest, more)

replies_counted :
    (history : List Entry) (bs : List ℕ) → AllByRecursion (λ e. length (entry_line e) ≤ 34) history
    → length (replies_text history bs) ≤ 34 * counted bs history
replies_counted history [] h = omega arith
replies_counted history (b ∷ bs) h =
    let one = flat_short entry_line 34 (entries_of b history)
    (all-filter (λ e. length (entry_line e) ≤ 34) (λ (e : Entry). e.board == b) history h) in
    rw (flat_map-cons (board_replies history) b bs)
    (omega (
      arith,
      length-append (board_replies history b) (replies_text history bs),
      one,
      replies_counted history bs h,
    ))

-- ---- the ending

copy_of_short :
    (c : Configuration) (board line : ℕ) → HasWords c → board ≤ 16 → line ≤ 4095 → length (copy_of c board line) ≤ 59
copy_of_short c board line h place low = go (row_at c.rows board line) refl
  where
    go : (o : Option Row) → row_at c.rows board line ≡ o → length (row_text board line o) ≤ 59
    go None e = omega arith
    go (Some row) e = copy_short board line row.state row.words place low (row_few c.rows board line row h.rows e)

memory_within : (c : Configuration) (lines : ℕ) → HasWords c → lines ≤ 4096 → length (all_memory c lines) ≤ 229376
memory_within c lines h few =
    let all = flat_short (memory_of c) 56 (numbers_below lines)
    (all-numbers (λ k. length (memory_of c k) ≤ 56) lines
    (λ k less. memory_short k _ (omega (arith, less, few)) (memory_few c.memory k h.memory))) in
    omega (arith, all, length-numbers lines, few)

board_within :
    (c : Configuration) (lines board : ℕ) → HasWords c → lines ≤ 4096 → board ≤ 16
    → length (board_copies c lines board) ≤ 241664
board_within c lines board h few place =
    let all = flat_short (copy_of c board) 59 (numbers_below lines)
    (all-numbers (λ k. length (copy_of c board k) ≤ 59) lines
    (λ k less. copy_of_short c board k h place (omega (arith, less, few)))) in
    omega (arith, all, length-numbers lines, few)

copies_within :
    (setup : Setup) (c : Configuration) → HasWords c → line_count setup ≤ 4096 → length setup.boards ≤ 16
    → length (all_copies c (line_count setup) (board_places setup)) ≤ 3866624
copies_within setup c h few boards =
    let all = flat_short (board_copies c (line_count setup)) 241664 (board_places setup)
    (all-places (λ b. length (board_copies c (line_count setup) b) ≤ 241664) 1 setup.boards
    (λ b less. board_within c (line_count setup) b h few (omega (arith, less, boards)))) in
    omega (arith, all, length-places 1 setup.boards, boards)

replies_within :
    (setup : Setup) (events : List Event) → AllByRecursion InRange events → length events ≤ 800000
    → length (replies_text (entries events) (board_places setup)) ≤ 34 * length events
replies_within setup events r few =
    let fit = all_entries (length events) 0 [] events r (omega arith) (record { each = tt; few = omega arith }) in
    let each = all_of (EntryFits (length events)) (λ e. length (entry_line e) ≤ 34)
    (λ e h. entry_short e (length events) (omega (arith, few)) h) (entries events) fit.each in
    let all = replies_counted (entries events) (board_places setup) each in
    let within = counted_within (board_places setup) (λ b. once 1 b setup.boards) (entries events) in
    omega (arith, all, within, fit.few)

events_within :
    (events : List Event) → AllByRecursion InRange events → length (events_text events) ≤ 253 * length events
events_within events r =
    flat_short line_of_event 253 events (all_of InRange (λ e. length (line_of_event e) ≤ 253) line_length events r)

-- The parts of a text, added.
parts_fit :
    (events replies memory copies : List ℕ) (count : ℕ) → count ≤ 800000 → length events ≤ 253 * count
    → length replies ≤ 34 * count → length memory ≤ 229376 → length copies ≤ 3866624
    → length (events ++ (line_bytes (codes "end" ∷ []) ++ (replies ++ (memory ++ copies)))) ≤ 268435456
parts_fit events replies memory copies count few e r m c =
    let one = length-append events (line_bytes (codes "end" ∷ []) ++ (replies ++ (memory ++ copies))) in
    let two = length-append (line_bytes (codes "end" ∷ [])) (replies ++ (memory ++ copies)) in
    let three = length-append replies (memory ++ copies) in
    let four = length-append memory copies in
    omega (arith, one, two, three, four, few, e, r, m, c)

-- The text of a run has at most 253 bytes an event, four for `end`, 34 a reply, 56 a line of memory and 59 a copy.
pub run_texts_fit : JournalBound → RunTextsFit
run_texts_fit bounded setup events well accepted run spelled =
    let c = after_all (opening setup) events in
    let count = bounded setup events c well accepted run in
    let few : length events ≤ 800000 = omega (arith, count, well.accesses) in
    let words = all_words (opening setup) events spelled (opening_words setup well.words) in
    parts_fit (events_text events) (replies_text (entries events) (board_places setup))
    (all_memory c (line_count setup)) (all_copies c (line_count setup) (board_places setup)) (length events) few
    (events_within events spelled) (replies_within setup events spelled few)
    (memory_within c (line_count setup) words well.lines_high)
    (copies_within setup c words well.lines_high well.boards_high)
