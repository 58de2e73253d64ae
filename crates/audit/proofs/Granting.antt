-- The boards that compete for the bus, board by board.
use Rattle.std.proofs.Common.{◌≡◌, ℕ, zero, suc, ◌+◌, ◌<◌, ◌≤◌, Bool, true, false, cond, ◌&&◌, ◌||◌, List, [], ◌∷◌, ◌++◌, Some, None, Option, length, map, option_map, take, drop, unwrap_or, inl, inr, refl, ap, ap₂, sym, subst, ◌∙◌, arith, add-one, append-nil}
use Rattle.std.specs.List.{list_any}
use Rattle.std.specs.Prelude.{All, filter, find}
use Rattle.std.proofs.lemmas.List.{drop_all, length-map, map-append, take_all}
use Rattle.std.proofs.lemmas.List.Elements.{filter-append}
use Rattle.arbiter.specs.Contests.{IsContest, IsNumber}
use Rattle.bus_model.specs.Arbitration.{competing, competing_numbers, does_compete}
use Rattle.bus_model.specs.Places.{places_from}
use Rattle.bus_model.specs.Setup.{BoardSpec, Setup, WellFormed, number_of}
use Rattle.bus_model.specs.Configuration.{Arbitration, Progress, is_raised}
use Rattle.coherence.proofs.Cells.{spec_there}
use Rattle.coherence.proofs.Competing.{some_is_competing}
use Rattle.coherence.proofs.Lists.{In, in-filter, map-in}
use Rattle.coherence.proofs.Places.{IsPlace, in-places}
use Rattle.audit.proofs.Asking.{length-places, places-more}

-- The numbers of those of the first boards that compete.
abbrev pub numbers_among : Setup → Arbitration → List Progress → ℕ → List ℕ
numbers_among setup a boards n =
    map (λ board. number_of setup board) (filter (does_compete a boards) (take n (places_from 1 boards)))

numbers_by :
    (setup : Setup) (a : Arbitration) (boards : List Progress) (n : ℕ) (b : Bool)
    → map (λ board. number_of setup board)
    (filter (does_compete a boards) (take n (places_from 1 boards)) ++ cond b (suc n ∷ []) [])
    ≡ numbers_among setup a boards n ++ cond b (number_of setup (suc n) ∷ []) []
numbers_by setup a boards n true =
    map-append (λ board. number_of setup board)
    (filter (does_compete a boards) (take n (places_from 1 boards))) (suc n ∷ [])
numbers_by setup a boards n false =
    ap (map (λ board. number_of setup board))
    (append-nil (filter (does_compete a boards) (take n (places_from 1 boards))))
    ∙ sym (append-nil (numbers_among setup a boards n))

-- One more board.
pub numbers-more :
    (setup : Setup) (a : Arbitration) (boards : List Progress) (n : ℕ) → n < length boards
    → numbers_among setup a boards (suc n)
    ≡ numbers_among setup a boards n ++ cond (does_compete a boards (suc n)) (number_of setup (suc n) ∷ []) []
numbers-more setup a boards n h =
    ap (λ (places : List ℕ). map (λ board. number_of setup board) (filter (does_compete a boards) places))
    (places-more 1 n boards h ∙ ap (λ (k : ℕ). take n (places_from 1 boards) ++ k ∷ []) (omega arith))
    ∙ ap (map (λ board. number_of setup board))
    (filter-append (does_compete a boards) (take n (places_from 1 boards)) (suc n ∷ []))
    ∙ numbers_by setup a boards n (does_compete a boards (suc n))

pub numbers-all :
    (setup : Setup) (a : Arbitration) (boards : List Progress) (n : ℕ) → length boards ≤ n
    → numbers_among setup a boards n ≡ competing_numbers setup a boards
numbers-all setup a boards n h =
    ap (λ (places : List ℕ). map (λ board. number_of setup board) (filter (does_compete a boards) places))
    (take_all n (places_from 1 boards) (omega (arith, length-places 1 boards)))

-- ---- the contest

filter-few : {X : Type 0} (p : X → Bool) (xs : List X) → length (filter p xs) ≤ length xs
filter-few p [] = omega arith
filter-few p (x ∷ xs) = go (p x) (filter-few p xs)
  where
    go : (b : Bool) → length (filter p xs) ≤ length xs → length (cond b (x ∷ filter p xs) (filter p xs)) ≤ length (x ∷ xs)
    go true h = omega arith
    go false h = omega arith

in-some : {X : Type 0} (x : X) (xs : List X) → In x xs → 1 ≤ length xs
in-some x [] h = absurd h
in-some x (y ∷ ys) h = omega arith

all-listed : (P : ℕ → Type 0) (xs : List ℕ) → ((x : ℕ) → In x xs → P x) → All P xs
all-listed P [] each i d lt = absurd (omega (arith, lt))
all-listed P (y ∷ ys) each zero d lt = each y (inl refl)
all-listed P (y ∷ ys) each (suc i) d lt = all-listed P ys (λ x m. each x (inr m)) i d (omega (arith, lt))

-- Where a board has raised a request, the numbers of those that compete are a contest.
pub is_contest :
    (setup : Setup) (a : Arbitration) (boards : List Progress) (board : ℕ) → WellFormed setup
    → length boards ≡ length setup.boards → is_raised boards board ≡ true
    → IsContest (competing_numbers setup a boards)
is_contest setup a boards board well long raised =
    let one = some_is_competing a boards board raised in
    let some = in-some one.0 (competing a boards) one.1 in
    let mapped = length-map (competing a boards) (λ (b : ℕ). number_of setup b) in
    let few = filter-few (does_compete a boards) (places_from 1 boards) in
    let places = length-places 1 boards in
    let most = well.boards_high in
    record {
      some = omega (arith, some, mapped);
      most = omega (arith, mapped, few, places, most, long);
      each = all-listed IsNumber (competing_numbers setup a boards) each;
    }
  where
    each : (n : ℕ) → In n (competing_numbers setup a boards) → IsNumber n
    each n m =
        let r = map-in (λ (b : ℕ). number_of setup b) (competing a boards) n m in
        let there = in-places boards 1 r.0 (in-filter (does_compete a boards) (places_from 1 boards) r.0 r.1).0 in
        let low = there.0 in
        let high = there.1 in
        let place : IsPlace (length setup.boards) r.0 = record { low = low; high = omega (arith, high, long) } in
        let spec = spec_there setup r.0 well place in
        let number : number_of setup r.0 ≡ spec.0.number =
        ap (λ o. unwrap_or (option_map (λ (spec : BoardSpec). spec.number) o) 0) spec.1 in
        subst IsNumber (sym number ∙ r.2) (spec.2.number_low, spec.2.number_high)

-- The numbers with that of one more board, if it competes.
pub competing-more :
    (setup : Setup) (a : Arbitration) (boards : List Progress) (n b number : ℕ) (competes : Bool) (taken more : List ℕ)
    → n < length boards → b ≡ suc n → taken ≡ numbers_among setup a boards n → competes ≡ does_compete a boards b
    → number ≡ number_of setup b → more ≡ taken ++ cond competes (number ∷ []) []
    → more ≡ numbers_among setup a boards (n + 1)
competing-more setup a boards n b number competes taken more low is so_far compete named with_more =
    with_more
    ∙ ap (λ (ns : List ℕ). ns ++ cond competes (number ∷ []) []) so_far
    ∙ ap₂ (λ (c : Bool) (k : ℕ). numbers_among setup a boards n ++ cond c (k ∷ []) [])
    (compete ∙ ap (does_compete a boards) is) (named ∙ ap (number_of setup) is)
    ∙ sym (numbers-more setup a boards n low) ∙ ap (numbers_among setup a boards) (sym (add-one n))

-- ---- the winner

-- The places after the first ones begin with the next.
pub places-drop :
    {X : Type 0} (k n : ℕ) (xs : List X) → n < length xs
    → drop n (places_from k xs) ≡ (k + n) ∷ drop (suc n) (places_from k xs)
places-drop k n [] h = absurd (omega arith)
places-drop k zero (x ∷ xs) h = let e : k + zero ≡ k = omega arith in rw e refl
places-drop k (suc n) (x ∷ xs) h =
    let e : k + suc n ≡ suc k + n = omega arith in
    places-drop (suc k) n xs (omega arith) ∙ rw e refl

pub places-next :
    {X : Type 0} (n b : ℕ) (xs : List X) → n < length xs → b ≡ suc n
    → drop n (places_from 1 xs) ≡ b ∷ drop (n + 1) (places_from 1 xs)
places-next n b xs low is =
    places-drop 1 n xs low
    ∙ ap₂ (λ (k m : ℕ). k ∷ drop m (places_from 1 xs)) (omega arith) (sym (add-one n))

pub places-none : {X : Type 0} (n : ℕ) (xs : List X) → length xs ≤ n → drop n (places_from 1 xs) ≡ []
places-none n xs h = drop_all n (places_from 1 xs) (omega (arith, length-places 1 xs))

-- A board that does not compete, or has another number, is passed over.
found_next :
    (p q : ℕ → Bool) (places : List ℕ) (board : ℕ) → (p board && q board) ≡ false
    → find q (filter p (board ∷ places)) ≡ find q (filter p places)
found_next p q places board h = go (p board) (q board) refl h
  where
    go :
        (a b : Bool) → q board ≡ b → (a && b) ≡ false
        → find q (cond a (board ∷ filter p places) (filter p places)) ≡ find q (filter p places)
    go true true e k = cc
    go true false e k = rw e refl
    go false b e k = refl

found_here :
    (p q : ℕ → Bool) (places : List ℕ) (board : ℕ) → (p board && q board) ≡ true
    → find q (filter p (board ∷ places)) ≡ Some board
found_here p q places board h = go (p board) (q board) refl h
  where
    go :
        (a b : Bool) → q board ≡ b → (a && b) ≡ true
        → find q (cond a (board ∷ filter p places) (filter p places)) ≡ Some board
    go true true e k = rw e refl
    go true false e k = cc
    go false b e k = cc

pub winner-skip :
    {X : Type 0} (p q : ℕ → Bool) (xs : List X) (n b : ℕ) (o : Option ℕ) → n < length xs → b ≡ suc n
    → o ≡ find q (filter p (drop n (places_from 1 xs))) → (p b && q b) ≡ false
    → o ≡ find q (filter p (drop (n + 1) (places_from 1 xs)))
winner-skip p q xs n b o low is so_far not_here =
    so_far ∙ ap (λ ps. find q (filter p ps)) (places-next n b xs low is)
    ∙ found_next p q (drop (n + 1) (places_from 1 xs)) b not_here

pub winner-stop :
    {X : Type 0} (p q : ℕ → Bool) (xs : List X) (n b : ℕ) (o : Option ℕ) → n < length xs → b ≡ suc n
    → o ≡ find q (filter p (drop n (places_from 1 xs))) → (p b && q b) ≡ true → o ≡ Some b
winner-stop p q xs n b o low is so_far here =
    so_far ∙ ap (λ ps. find q (filter p ps)) (places-next n b xs low is)
    ∙ found_here p q (drop (n + 1) (places_from 1 xs)) b here

pub winner-none :
    {X : Type 0} (p q : ℕ → Bool) (xs : List X) (n : ℕ) (o : Option ℕ) → length xs ≤ n
    → o ≡ find q (filter p (drop n (places_from 1 xs))) → o ≡ None
winner-none p q xs n o high so_far = so_far ∙ ap (λ ps. find q (filter p ps)) (places-none n xs high)

-- ---- whether any board waits

pub any-skip :
    {X : Type 0} (p : ℕ → Bool) (xs : List X) (n b : ℕ) (o : Bool) → n < length xs → b ≡ suc n
    → o ≡ list_any p (drop n (places_from 1 xs)) → p b ≡ false → o ≡ list_any p (drop (n + 1) (places_from 1 xs))
any-skip p xs n b o low is so_far not_here =
    so_far ∙ ap (list_any p) (places-next n b xs low is)
    ∙ ap (λ t. t || list_any p (drop (n + 1) (places_from 1 xs))) not_here

pub any-stop :
    {X : Type 0} (p : ℕ → Bool) (xs : List X) (n b : ℕ) (o : Bool) → n < length xs → b ≡ suc n
    → o ≡ list_any p (drop n (places_from 1 xs)) → p b ≡ true → o ≡ true
any-stop p xs n b o low is so_far here =
    so_far ∙ ap (list_any p) (places-next n b xs low is)
    ∙ ap (λ t. t || list_any p (drop (n + 1) (places_from 1 xs))) here

pub any-none :
    {X : Type 0} (p : ℕ → Bool) (xs : List X) (n : ℕ) (o : Bool) → length xs ≤ n
    → o ≡ list_any p (drop n (places_from 1 xs)) → o ≡ false
any-none p xs n o high so_far = so_far ∙ ap (list_any p) (places-none n xs high)
