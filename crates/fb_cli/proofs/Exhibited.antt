-- The turns of an exhibit are of its boards.
use Rattle.std.proofs.Common.{◌≡◌, ℕ, zero, suc, ◌≤◌, ◌&&◌, Bool, true, false, leb, List, [], ◌∷◌, refl, sym, subst₂, arith}
use Rattle.std.proofs.lemmas.Bool.{and_parts, eqb-true, leb-true}
use Rattle.std.proofs.lemmas.Bool.Decides.{nat_tests}
use Rattle.std.specs.Prelude.{◌==◌}
use Rattle.std.specs.List.{AllByRecursion, list_all}
use Rattle.bus_model.specs.Setup.{Setup}
use Rattle.audit.specs.First.{IsPlaceOf}
use Rattle.audit.specs.Exhibits.{exhibit_of, setup_of, steps_of}
use Rattle.audit.specs.Exhibits as exhibits

-- A board of two.
abbrev test_place : ℕ → Bool
test_place board = leb 1 board && leb board 2

are_places : (boards : List ℕ) → list_all test_place boards ≡ true → AllByRecursion (λ b. (1 ≤ b) × (b ≤ 2)) boards
are_places [] h = tt
are_places (b ∷ boards) h =
    let p = and_parts (leb 1 b && leb b 2) (list_all test_place boards) h in
    let q = and_parts (leb 1 b) (leb b 2) p.0 in
    ((leb-true 1 b q.0, leb-true b 2 q.1), are_places boards p.1)

-- The turns of the exhibit of a number.
abbrev turns_by : ℕ → List ℕ
turns_by number = exhibits.turns_of (steps_of (exhibit_of number))

-- A test of each number up to this one, from 1.
all_to : (ℕ → Bool) → ℕ → Bool
all_to test zero = true
all_to test (suc k) = test (suc k) && all_to test k

to_one : (test : ℕ → Bool) (k n : ℕ) → all_to test k ≡ true → 1 ≤ n → n ≤ k → test n ≡ true
unfolding all_to
to_one test zero n h low high = absurd (omega arith)
to_one test (suc k) n h low high =
    let p = and_parts (test (suc k)) (all_to test k) h in
    go (n == suc k) refl p.0 (λ less. to_one test k n p.1 low less)
  where
    go : (b : Bool) → (n == suc k) ≡ b → test (suc k) ≡ true → (n ≤ k → test n ≡ true) → test n ≡ true
    go true e here before = rw (eqb-true n (suc k) e) here
    go false e here before = before (grind (arith, nat_tests))

all_tested : all_to (λ number. list_all test_place (turns_by number)) 12 ≡ true
unfolding all_to
all_tested = refl

pub exhibit_places :
    (number : ℕ) (setup : Setup) (turns : List ℕ) → 1 ≤ number → number ≤ 12
    → setup ≡ setup_of (exhibit_of number) → turns ≡ turns_by number → AllByRecursion (IsPlaceOf setup) turns
exhibit_places number setup turns low high is are =
    subst₂ (λ s t. AllByRecursion (IsPlaceOf s) t) (sym is) (sym are)
    (are_places (turns_by number)
    (to_one (λ n. list_all test_place (turns_by n)) 12 number all_tested low high))
