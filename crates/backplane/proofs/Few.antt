-- There are never more rows or replies than the setup needs.
use Rattle.std.proofs.Common.{◌≡◌, ℕ, zero, suc, ◌+◌, ◌<◌, ◌≤◌, Bool, true, false, cond, List, [], ◌∷◌, length, get_or, refl, ap, sym, subst, ◌∙◌, arith}
use Rattle.std.specs.Prelude.{All, AllPairs, ◌==◌, slice_get, unwrap_or}
use Rattle.std.specs.List.{sum_by}
use Rattle.std.proofs.lemmas.Bool.{eqb-true}
use Rattle.std.proofs.lemmas.Bool.Decides.{nat_tests}
use Rattle.std.proofs.lemmas.List.{length-map}
use Rattle.std.proofs.lemmas.List.Sums.{sum_by-cons}
use Rattle.bus_signals.specs.declared.Access.{Access}
use Rattle.line_pool.specs.Pools.{Pool, words_of}
use Rattle.bus_model.specs.Places.{places_from, count_where}
use Rattle.bus_model.specs.Setup.{Setup, access_count, board_places}
use Rattle.bus_model.specs.Events.{Event}
use Rattle.bus_model.specs.Configuration.{Configuration, Row}
use Rattle.bus_model.specs.Entries.{entries, entries_of}
use Rattle.bus_model.specs.Soundness.{Sound}
use Rattle.board.specs.Pooled.{RowsHaveFrames}
use Rattle.board.specs.Rack.{all_ways}
use Rattle.coherence.proofs.Journal.{place_within}
use Rattle.backplane.specs.declared.parts.Parts.{Parts}
use Rattle.backplane.specs.Histories.{Histories}
use Rattle.backplane.specs.Machine.{Machine, configuration, configuration_after}
use Rattle.backplane.specs.Needs.{needed, reply_count}
use Rattle.backplane.specs.Standing.{Stands}
use Rattle.backplane.proofs.Stepping.{stands-sound}

-- ---- distinct numbers below n are n at most

-- How many of these numbers are below n, counted number by number.
abbrev below : ℕ → List ℕ → ℕ
below zero xs = 0
below (suc n) xs = count_where (λ x. x == n) xs + below n xs

below-past : (n x : ℕ) (xs : List ℕ) → n ≤ x → below n (x ∷ xs) ≡ below n xs
below-past zero x xs h = refl
below-past (suc n) x xs h =
    let rest = below-past n x xs (omega arith) in
    let other : (x == n) ≡ false = grind (arith, nat_tests) in
    rw other (omega arith)

below-cons-by :
    (n x : ℕ) (xs : List ℕ) (b : Bool) → (x == n) ≡ b → x < suc n → (x < n → below n (x ∷ xs) ≡ suc (below n xs))
    → cond b 1 0 + count_where (λ y. y == n) xs + below n (x ∷ xs) ≡ suc (count_where (λ y. y == n) xs + below n xs)
below-cons-by n x xs true e h earlier =
    let same = eqb-true x n e in
    let past = below-past n x xs (omega arith) in
    omega arith
below-cons-by n x xs false e h earlier =
    let other : x < n = grind (arith, nat_tests) in
    let rest = earlier other in
    omega arith

below-cons : (n x : ℕ) (xs : List ℕ) → x < n → below n (x ∷ xs) ≡ suc (below n xs)
below-cons zero x xs h = absurd (omega arith)
below-cons (suc n) x xs h = below-cons-by n x xs (x == n) refl h (below-cons n x xs)

all-below : (n : ℕ) (xs : List ℕ) → All (λ x. x < n) xs → length xs ≡ below n xs
all-below n [] all = none n
  where
    none : (n : ℕ) → 0 ≡ below n []
    none zero = refl
    none (suc n) = let rest = none n in omega arith
all-below n (x ∷ xs) all =
    let rest = all-below n xs (λ k d l. all (suc k) d (omega arith)) in
    let first = below-cons n x xs (all 0 x (omega arith)) in
    omega arith

-- A number that differs from each of a list is not in it.
absent : (n : ℕ) (xs : List ℕ) → ((k d : ℕ) → k < length xs → n ≡ get_or xs k d → ⊥) → count_where (λ x. x == n) xs ≡ 0
absent n [] h = refl
absent n (x ∷ xs) h = go (x == n) refl (absent n xs (λ k d l e. h (suc k) d (omega arith) e))
  where
    go : (b : Bool) → (x == n) ≡ b → count_where (λ y. y == n) xs ≡ 0 → cond b 1 0 + count_where (λ y. y == n) xs ≡ 0
    go true e rest = absurd (h 0 x (omega arith) (sym (eqb-true x n e)))
    go false e rest = omega arith

once : (n : ℕ) (xs : List ℕ) → AllPairs (λ a b. a ≡ b → ⊥) xs → count_where (λ x. x == n) xs ≤ 1
once n [] apart = omega arith
once n (x ∷ xs) apart = go (x == n) refl (once n xs (λ i j d l m. apart (suc i) (suc j) d (omega arith) (omega arith)))
  where
    go : (b : Bool) → (x == n) ≡ b → count_where (λ y. y == n) xs ≤ 1 → cond b 1 0 + count_where (λ y. y == n) xs ≤ 1
    go true e rest =
        let same = eqb-true x n e in
        let none = absent n xs (λ k d l is. apart 0 (suc k) d (omega arith) (omega arith) (same ∙ is)) in
        omega arith
    go false e rest = omega arith

below-few : (n : ℕ) (xs : List ℕ) → AllPairs (λ a b. a ≡ b → ⊥) xs → below n xs ≤ n
below-few zero xs apart = omega arith
below-few (suc n) xs apart = let here = once n xs apart in let rest = below-few n xs apart in omega arith

-- There are no more rows than the pool has frames.
pub rows-few : (pool : Pool) (rows : List Row) → RowsHaveFrames pool rows → length rows ≤ length pool.out
rows-few pool rows h =
    let long : length rows ≡ length h.numbers =
    sym (length-map rows (λ (row : Row). row.words)) ∙ ap (λ (ws : List (List ℕ)). length ws) h.words
    ∙ length-map h.numbers (words_of pool) in
    let all = all-below (length pool.out) h.numbers (λ k d l. (h.out k d l).inside) in
    let few = below-few (length pool.out) h.numbers h.apart in
    omega (arith, long, all, few)

-- ---- replies

sum-within : {X : Type 0} (f : ℕ → ℕ) (k : ℕ) (xs : List X) (scripts : List (List Access)) → length scripts ≡ length xs
    → ((j : ℕ) → f (k + j) ≤ length (unwrap_or (slice_get scripts j) []))
    → sum_by f (places_from k xs) ≤ sum_by (λ (script : List Access). length script) scripts
sum-within f k [] [] long each = omega arith
sum-within f k [] (s ∷ scripts) long each = absurd (omega arith)
sum-within f k (x ∷ xs) [] long each = absurd (omega arith)
sum-within f k (x ∷ xs) (s ∷ scripts) long each =
    let next : (j : ℕ) → f (suc k + j) ≤ length (unwrap_or (slice_get scripts j) []) =
    λ j.
    let e : k + suc j ≡ suc k + j = omega arith in
    subst (λ (n : ℕ). f n ≤ length (unwrap_or (slice_get scripts j) [])) e (each (suc j)) in
    let here : f k ≤ length s = let e : k + 0 ≡ k = omega arith in subst (λ (n : ℕ). f n ≤ length s) e (each 0) in
    let rest = sum-within f (suc k) xs scripts (omega arith) next in
    let left = sum_by-cons f k (places_from (suc k) xs) in
    let right = sum_by-cons (λ (script : List Access). length script) s scripts in
    omega (arith, here, rest, left, right)

-- All boards together have no more replies than there are accesses.
replies-few :
    (setup : Setup) (events : List Event) (c : Configuration) → length setup.scripts ≡ length setup.boards
    → Sound setup events c
    → sum_by (λ board. length (entries_of board (entries events))) (board_places setup) ≤ access_count setup
replies-few setup events c long sound =
    sum-within (λ board. length (entries_of board (entries events))) 1 setup.boards setup.scripts long
    (λ j.
    let e : suc j ≡ 1 + j = omega arith in
    subst (λ (b : ℕ). replies b ≤ length (unwrap_or (slice_get setup.scripts j) [])) e (each j))
  where
    replies : ℕ → ℕ
    replies board = length (entries_of board (entries events))

    each : (j : ℕ) → length (entries_of (suc j) (entries events)) ≤ length (unwrap_or (slice_get setup.scripts j) [])
    each j =
        let count = (sound.scripts (suc j)).count in
        let within = place_within setup events c (suc j) sound in omega (arith, count, within)

-- ---- the whole

pub replies-within :
    (setup : Setup) (events : List Event) (capacity : ℕ) (p : Parts) (h : Histories) (now : Machine)
    → Stands setup events capacity p h → record { setup = setup; journal = events } ≡ now
    → reply_count now ≤ (needed now.setup).replies
replies-within setup events capacity p h now stands same =
    subst (λ (m : Machine). reply_count m ≤ (needed m.setup).replies) same
    (replies-few setup events (configuration_after setup events) stands.fits.scripts
    (stands-sound setup events capacity p h stands))

pub rows-within :
    (setup : Setup) (events : List Event) (capacity : ℕ) (p : Parts) (h : Histories) (now : Machine) (pool : Pool)
    → Stands setup events capacity p h → record { setup = setup; journal = events } ≡ now
    → RowsHaveFrames pool p.rack.rows → length pool.out ≡ all_ways p.rack.specs
    → length (configuration now).rows ≤ (needed now.setup).frames
rows-within setup events capacity p h now pool stands same have all =
    let few = rows-few pool p.rack.rows have in
    let rows : length p.rack.rows ≡ length (configuration_after setup events).rows =
    ap (λ (rs : List Row). length rs) stands.parts.rack.rows in
    let ways : all_ways p.rack.specs ≡ all_ways setup.boards = ap all_ways stands.parts.boards in
    subst (λ (m : Machine). length (configuration m).rows ≤ (needed m.setup).frames) same
    (omega (arith, few, all, rows, ways))
