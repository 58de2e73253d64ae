-- The lines of a contest settle to the highest number in at most nine rounds, and a search for the first round that
-- changes nothing finds the one that the definition finds.
use Rattle.std.proofs.Common.{◌≡◌, ◌≢◌, ℕ, zero, suc, ◌+◌, ◌-◌, ◌/◌, ◌^◌, ◌<◌, ◌≤◌, cond, List, [], ◌∷◌, map, refl, sym, ap, ◌∙◌, subst, arith, inl, inr, ◌⊎◌}
use Rattle.std.specs.Prelude.{All, ◌==◌}
use Rattle.std.proofs.lemmas.Bool.{eq-eqb, ne_eqb, cases_lt}
use Rattle.bus_model.specs.Settling.{wired_lines, driven, next_lines, lines_after, rounds_from, settled_rounds, settled_lines, SettlesIn, highest}
use Rattle.arbiter.specs.Contests.{IsNumber, IsContest}
use Rattle.arbiter.proofs.Cover.{Covers, covers_half}
use Rattle.arbiter.proofs.Members.{In, all-in, all-map, in-map, highest-in, highest-above}
use Rattle.arbiter.proofs.Driven.{wired_is, own_driven, part_driven, smaller_quotient}

all_of : (P : ℕ → Type 0) (xs : List ℕ) → All P xs → (x : ℕ) → In x xs → P x
all_of P [] each x there = absurd there
all_of P (y ∷ ys) each x (inl e) = subst P (sym e) (each 0 y (omega arith))
all_of P (y ∷ ys) each x (inr there) = all_of P ys (λ i d lt. each (suc i) d (omega arith)) x there

pub first_is : (numbers : List ℕ) → wired_lines numbers ≡ lines_after numbers 0
unfolding lines_after
first_is numbers = refl

pub next_is :
    (numbers : List ℕ) (k lines : ℕ) → lines ≡ lines_after numbers k
    → next_lines numbers lines ≡ lines_after numbers (suc k)
unfolding lines_after
next_is numbers k lines e = ap (next_lines numbers) e

-- Each round so far changed the lines, and so did one more.
pub differ_more :
    (numbers : List ℕ) (rounds : ℕ) → ((k : ℕ) → k < rounds → lines_after numbers (suc k) ≢ lines_after numbers k)
    → lines_after numbers (suc rounds) ≢ lines_after numbers rounds → (k : ℕ) → k < rounds + 1
    → lines_after numbers (suc k) ≢ lines_after numbers k
differ_more numbers rounds before last k less = go (cases_lt k rounds)
  where
    go : (k < rounds) ⊎ (rounds ≤ k) → lines_after numbers (suc k) ≢ lines_after numbers k
    go (inl h) = before k h
    go (inr h) =
        let same : rounds ≡ k = omega (arith, h, less) in
        subst (λ (i : ℕ). lines_after numbers (suc i) ≢ lines_after numbers i) same last

-- What a search for the first round that changes nothing has found.
pub record Found (numbers : List ℕ) (lines rounds : ℕ) : Type 0 where
  pub shown : lines ≡ lines_after numbers rounds
  pub within : rounds ≤ 9
  pub differ : (k : ℕ) → k < rounds → lines_after numbers (suc k) ≢ lines_after numbers k
  pub stays : lines_after numbers (suc rounds) ≡ lines_after numbers rounds

module _ (numbers : List ℕ) (contest : IsContest numbers) where
  abbrev high : ℕ
  high = highest numbers

  high_in : In high numbers
  high_in = highest-in numbers contest.some

  ten_bits : high ≤ 1023
  ten_bits = (all_of IsNumber numbers contest.each high high_in).1

  -- A round makes the lines agree with the highest number in one bit more.
  next_top :
      (lines j : ℕ) → j ≤ 9 → lines / 2 ^ suc j ≡ high / 2 ^ suc j → next_lines numbers lines / 2 ^ j ≡ high / 2 ^ j
  next_top lines j within agree =
      wired_is j (high / 2 ^ j) (map (λ number. driven lines number) numbers) (driven lines high)
      (all-map (λ v. Covers (high / 2 ^ j) (v / 2 ^ j)) (λ number. driven lines number) numbers
      (λ n there. part_driven lines high j n within (highest-above numbers n there) ten_bits agree))
      (in-map (λ number. driven lines number) numbers high high_in)
      (own_driven lines high j within agree)

  first_top : wired_lines numbers / 2 ^ 9 ≡ high / 2 ^ 9
  first_top =
      wired_is 9 (high / 2 ^ 9) numbers high
      (all-in (λ v. Covers (high / 2 ^ 9) (v / 2 ^ 9)) numbers
      (λ n there.
      let below = highest-above numbers n there in
      covers_half (n / 2 ^ 9) (high / 2 ^ 9) (omega (arith, below, ten_bits)) (smaller_quotient n high 9 below)))
      high_in refl

  top : (k j : ℕ) → k + j ≡ 9 → lines_after numbers k / 2 ^ j ≡ high / 2 ^ j
  unfolding lines_after
  top zero j e =
      let same : 9 ≡ j = omega (arith, e) in
      subst (λ (i : ℕ). wired_lines numbers / 2 ^ i ≡ high / 2 ^ i) same first_top
  top (suc k) j e = next_top (lines_after numbers k) j (omega (arith, e)) (top k (suc j) (omega (arith, e)))

  at_nine : lines_after numbers 9 ≡ high
  at_nine = let e = top 9 0 refl in omega (arith, e)

  at_ten : lines_after numbers 10 ≡ high
  unfolding lines_after
  at_ten =
      let e = next_top (lines_after numbers 9) 0 (omega arith) (ap (λ x. x / 2 ^ 1) at_nine) in
      omega (arith, e)

  still :
      (k r : ℕ) → lines_after numbers (suc r) ≡ lines_after numbers r
      → lines_after numbers (k + r) ≡ lines_after numbers r
  unfolding lines_after
  still zero r e = let none : zero + r ≡ r = omega arith in ap (lines_after numbers) none
  still (suc k) r e =
      let next : suc k + r ≡ suc (k + r) = omega arith in
      ap (lines_after numbers) next ∙ ap (next_lines numbers) (still k r e) ∙ e

  -- Lines that a round leaves as they are show the highest number.
  shows_highest : (r : ℕ) → r ≤ 9 → lines_after numbers (suc r) ≡ lines_after numbers r → lines_after numbers r ≡ high
  shows_highest r within e =
      let place : (9 - r) + r ≡ 9 = omega (arith, within) in
      sym (still (9 - r) r e) ∙ ap (lines_after numbers) place ∙ at_nine

  -- After a round that changes the lines there have been no more than nine.
  pub few_rounds : (r : ℕ) → r ≤ 9 → lines_after numbers (suc r) ≢ lines_after numbers r → r + 1 ≤ 9
  few_rounds r within other = go (cases_lt r 9)
    where
      go : (r < 9) ⊎ (9 ≤ r) → r + 1 ≤ 9
      go (inl less) = omega (arith, less)
      go (inr more) =
          let same : 9 ≡ r = omega (arith, more, within) in
          absurd (other (subst (λ (i : ℕ). lines_after numbers (suc i) ≡ lines_after numbers i) same
          (at_ten ∙ sym at_nine)))

  search_finds :
      (tries k r : ℕ) → k ≤ r → r < k + tries → ((i : ℕ) → i < r → lines_after numbers (suc i) ≢ lines_after numbers i)
      → lines_after numbers (suc r) ≡ lines_after numbers r → rounds_from tries k numbers ≡ r
  unfolding rounds_from
  search_finds zero k r low within differ e = absurd (omega (arith, low, within))
  search_finds (suc tries) k r low within differ e =
      go (cases_lt k r) (λ less. search_finds tries (suc k) r (omega (arith, less)) (omega (arith, within)) differ e)
    where
      go :
          (k < r) ⊎ (r ≤ k) → (k < r → rounds_from tries (suc k) numbers ≡ r)
          → cond (lines_after numbers (suc k) == lines_after numbers k) k (rounds_from tries (suc k) numbers) ≡ r
      go (inl less) rest = rw (ne_eqb (lines_after numbers (suc k)) (lines_after numbers k) (differ k less)) (rest less)
      go (inr more) rest =
          let same : r ≡ k = omega (arith, low, more) in
          let here : lines_after numbers (suc k) ≡ lines_after numbers k =
          subst (λ (i : ℕ). lines_after numbers (suc i) ≡ lines_after numbers i) same e in
          rw (eq-eqb (lines_after numbers (suc k)) (lines_after numbers k) here) (sym same)

  rounds_are :
      (r : ℕ) → r ≤ 9 → ((i : ℕ) → i < r → lines_after numbers (suc i) ≢ lines_after numbers i)
      → lines_after numbers (suc r) ≡ lines_after numbers r → settled_rounds numbers ≡ r
  rounds_are r within differ e = search_finds 10 0 r (omega arith) (omega (arith, within)) differ e

  pub found_settles : (lines rounds : ℕ) → Found numbers lines rounds → SettlesIn numbers lines rounds
  found_settles lines rounds found = record { shown = found.shown; stays = found.stays; least = found.differ }

  pub found_rounds : (lines rounds : ℕ) → Found numbers lines rounds → rounds ≡ settled_rounds numbers
  found_rounds lines rounds found = sym (rounds_are rounds found.within found.differ found.stays)

  pub found_lines : (lines rounds : ℕ) → Found numbers lines rounds → lines ≡ settled_lines numbers
  found_lines lines rounds found = found.shown ∙ ap (lines_after numbers) (found_rounds lines rounds found)

  pub found_highest : (lines rounds : ℕ) → Found numbers lines rounds → lines ≡ high
  found_highest lines rounds found = found.shown ∙ shows_highest rounds found.within found.stays
