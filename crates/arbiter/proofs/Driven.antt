-- What boards drive, where the lines agree with the highest number except in the low bits: it agrees in one more bit.
use Rattle.std.proofs.Common.{◌≡◌, ℕ, zero, suc, ◌+◌, ◌-◌, ◌*◌, ◌/◌, ◌%◌, ◌^◌, ◌<◌, ◌≤◌, Bool, true, false, not, ◌&&◌, cond, List, [], ◌∷◌, refl, sym, ap, ◌∙◌, subst, arith, inl, inr, ◌⊎◌}
use Rattle.std.specs.Prelude.{bit_or}
use Rattle.std.specs.List.{AllByRecursion}
use Rattle.std.proofs.lemmas.Bool.{eqb-true, eqb-false}
use Rattle.std.proofs.lemmas.Nat.{shl-shr, shr-shr, shr_split, shr_le, pow-add, pow_pos, or_shr, or_comm, mod_below, le-div}
use Rattle.bus_model.specs.Settling.{wired_lines, has_bit, driven_below}
use Rattle.arbiter.proofs.Cover.{Covers, covers_zero, covers_or, covers_half, covers_shifted}
use Rattle.arbiter.proofs.Members.{In}

-- ---- quotients

halved : (x k : ℕ) → x / 2 ^ suc k ≡ (x / 2 ^ k) / 2
halved x k = let next : suc k ≡ k + 1 = omega arith in ap (λ i. x / 2 ^ i) next ∙ sym (shr-shr x k 1)

smaller : (x y k : ℕ) → x ≤ y → x / 2 ^ k ≤ y / 2 ^ k
smaller x y k h = le-div (x / 2 ^ k) y (2 ^ k) (pow_pos k) (omega (arith, h, shr_split x k))

-- Above a bit in which two numbers agree they agree in every bit.
agree_above : (x y j m : ℕ) → x / 2 ^ j ≡ y / 2 ^ j → x / 2 ^ (j + m) ≡ y / 2 ^ (j + m)
agree_above x y j m h = sym (shr-shr x j m) ∙ ap (λ n. n / 2 ^ m) h ∙ shr-shr y j m

-- A number that is cleared below a bit, seen from a lower bit.
cleared_from : (x j m : ℕ) → (x * 2 ^ (m + j)) / 2 ^ j ≡ x * 2 ^ m
cleared_from x j m =
    let power : 2 ^ (m + j) ≡ 2 ^ m * 2 ^ j = pow-add 2 m j in
    let moved : x * (2 ^ m * 2 ^ j) ≡ (x * 2 ^ m) * 2 ^ j = omega arith in
    ap (λ p. (x * p) / 2 ^ j) power ∙ ap (λ p. p / 2 ^ j) moved ∙ shl-shr (x * 2 ^ m) j

-- ---- one bit

-- A board disagrees at a bit.
abbrev disagrees : ℕ → ℕ → ℕ → Bool
disagrees lines n k = has_bit lines k && not (has_bit n k)

disagrees-true : (lines n k : ℕ) → disagrees lines n k ≡ true → ((lines / 2 ^ k) % 2 ≡ 1) × ((n / 2 ^ k) % 2 ≡ 0)
disagrees-true lines n k h = go (has_bit lines k) refl (has_bit n k) refl h
  where
    go :
        (a : Bool) → has_bit lines k ≡ a → (b : Bool) → has_bit n k ≡ b → (a && not b) ≡ true
        → ((lines / 2 ^ k) % 2 ≡ 1) × ((n / 2 ^ k) % 2 ≡ 0)
    go true e false f h =
        let other : (n / 2 ^ k) % 2 ≡ 1 → ⊥ = eqb-false ((n / 2 ^ k) % 2) 1 f in
        let low = mod_below (n / 2 ^ k) 2 (omega arith) in
        (eqb-true ((lines / 2 ^ k) % 2) 1 e, small ((n / 2 ^ k) % 2) low other)
      where
        small : (r : ℕ) → r < 2 → (r ≡ 1 → ⊥) → r ≡ 0
        small zero h k = refl
        small (suc zero) h k = absurd (k refl)
        small (suc (suc r)) h k = absurd (omega arith)
    go true e true f h = cc
    go false e b f h = cc

disagrees-false : (lines n k : ℕ) → disagrees lines n k ≡ false → ((lines / 2 ^ k) % 2 ≡ 0) ⊎ ((n / 2 ^ k) % 2 ≡ 1)
disagrees-false lines n k h = go (has_bit lines k) refl (has_bit n k) refl h
  where
    small : (r : ℕ) → r < 2 → (r ≡ 1 → ⊥) → r ≡ 0
    small zero h k = refl
    small (suc zero) h k = absurd (k refl)
    small (suc (suc r)) h k = absurd (omega arith)

    go :
        (a : Bool) → has_bit lines k ≡ a → (b : Bool) → has_bit n k ≡ b → (a && not b) ≡ false
        → ((lines / 2 ^ k) % 2 ≡ 0) ⊎ ((n / 2 ^ k) % 2 ≡ 1)
    go a e true f h = inr (eqb-true ((n / 2 ^ k) % 2) 1 f)
    go false e false f h =
        inl
        (small ((lines / 2 ^ k) % 2) (mod_below (lines / 2 ^ k) 2 (omega arith)) (eqb-false ((lines / 2 ^ k) % 2) 1 e))
    go true e false f h = cc

-- ---- what one board drives

-- Looking below a bit leaves the bits from there on alone.
kept_from : (lines n k j : ℕ) → k ≤ j → driven_below k lines n / 2 ^ j ≡ n / 2 ^ j
unfolding driven_below
kept_from lines n zero j h = refl
kept_from lines n (suc k) j h = go (disagrees lines n k) (kept_from lines n k j (omega arith))
  where
    cleared : (n / 2 ^ k * 2 ^ k) / 2 ^ j ≡ n / 2 ^ j
    cleared =
        let place : k + (j - k) ≡ j = omega (arith, h) in
        let split : (n / 2 ^ k * 2 ^ k) / 2 ^ (k + (j - k)) ≡ n / 2 ^ (k + (j - k)) =
        sym (shr-shr (n / 2 ^ k * 2 ^ k) k (j - k)) ∙ ap (λ x. x / 2 ^ (j - k)) (shl-shr (n / 2 ^ k) k)
        ∙ shr-shr n k (j - k) in
        subst (λ (i : ℕ). (n / 2 ^ k * 2 ^ k) / 2 ^ i ≡ n / 2 ^ i) place split

    go :
        (b : Bool) → driven_below k lines n / 2 ^ j ≡ n / 2 ^ j
        → cond b (n / 2 ^ k * 2 ^ k) (driven_below k lines n) / 2 ^ j ≡ n / 2 ^ j
    go true rest = cleared
    go false rest = rest

module _ (lines h j : ℕ) (agree : lines / 2 ^ suc j ≡ h / 2 ^ suc j) where
  -- The lines and the highest number agree at a bit above.
  same_bit : (k m : ℕ) → k ≡ suc m + j → lines / 2 ^ k ≡ h / 2 ^ k
  same_bit k m e =
      let place : suc j + m ≡ k = omega (arith, e) in
      subst (λ (i : ℕ). lines / 2 ^ i ≡ h / 2 ^ i) place (agree_above lines h (suc j) m agree)

  -- The highest number is driven with all its bits from this one on.
  own : (m k : ℕ) → k ≡ m + j → driven_below (suc k) lines h / 2 ^ j ≡ h / 2 ^ j
  unfolding driven_below
  own zero k e = go (disagrees lines h k)
    where
      same : k ≡ j
      same = omega (arith, e)

      go : (b : Bool) → cond b (h / 2 ^ k * 2 ^ k) (driven_below k lines h) / 2 ^ j ≡ h / 2 ^ j
      go true = subst (λ (i : ℕ). (h / 2 ^ k * 2 ^ k) / 2 ^ i ≡ h / 2 ^ i) same (shl-shr (h / 2 ^ k) k)
      go false = kept_from lines h k j (omega (arith, same))
  own (suc m) zero e = absurd (omega (arith, e))
  own (suc m) (suc k) e = go (disagrees lines h (suc k)) refl (own m k (omega (arith, e)))
    where
      go :
          (b : Bool) → disagrees lines h (suc k) ≡ b → driven_below (suc k) lines h / 2 ^ j ≡ h / 2 ^ j
          → cond b (h / 2 ^ suc k * 2 ^ suc k) (driven_below (suc k) lines h) / 2 ^ j ≡ h / 2 ^ j
      go true d rest =
          let bits = disagrees-true lines h (suc k) d in
          let same = same_bit (suc k) m (omega (arith, e)) in
          absurd (omega (arith, bits.0, bits.1, ap (λ x. x % 2) same))
      go false d rest = rest

  -- Any number that is not above the highest is driven with no bit, from this one on, that the highest does not have.
  part :
      (n : ℕ) → n ≤ h → (m k : ℕ) → k ≡ m + j → n / 2 ^ suc k ≡ h / 2 ^ suc k
      → Covers (h / 2 ^ j) (driven_below (suc k) lines n / 2 ^ j)
  unfolding driven_below
  part n below zero k e top = go (disagrees lines n k)
    where
      same : k ≡ j
      same = omega (arith, e)

      halves : (n / 2 ^ j) / 2 ≡ (h / 2 ^ j) / 2
      halves = subst (λ (i : ℕ). (n / 2 ^ i) / 2 ≡ (h / 2 ^ i) / 2) same (sym (halved n k) ∙ top ∙ halved h k)

      covered : Covers (h / 2 ^ j) (n / 2 ^ j)
      covered = covers_half (n / 2 ^ j) (h / 2 ^ j) halves (smaller n h j below)

      go : (b : Bool) → Covers (h / 2 ^ j) (cond b (n / 2 ^ k * 2 ^ k) (driven_below k lines n) / 2 ^ j)
      go true =
          let cleared : (n / 2 ^ k * 2 ^ k) / 2 ^ j ≡ n / 2 ^ j =
          subst (λ (i : ℕ). (n / 2 ^ k * 2 ^ k) / 2 ^ i ≡ n / 2 ^ i) same (shl-shr (n / 2 ^ k) k) in
          subst (λ (x : ℕ). Covers (h / 2 ^ j) x) (sym cleared) covered
      go false = subst (λ (x : ℕ). Covers (h / 2 ^ j) x) (sym (kept_from lines n k j (omega (arith, same)))) covered
  part n below (suc m) zero e top = absurd (omega (arith, e))
  part n below (suc m) (suc k) e top =
      go (disagrees lines n (suc k)) refl (λ even. part n below m k (omega (arith, e)) even)
    where
      q : ℕ
      q = n / 2 ^ suc k

      p : ℕ
      p = h / 2 ^ suc k

      halves : q / 2 ≡ p / 2
      halves = sym (halved n (suc k)) ∙ top ∙ halved h (suc k)

      less : q ≤ p
      less = smaller n h (suc k) below

      same : lines / 2 ^ suc k ≡ p
      same = same_bit (suc k) m (omega (arith, e))

      place : suc m + j ≡ suc k
      place = sym e

      seen : (q * 2 ^ suc k) / 2 ^ j ≡ q * 2 ^ suc m
      seen = subst (λ (i : ℕ). (q * 2 ^ i) / 2 ^ j ≡ q * 2 ^ suc m) place (cleared_from q j (suc m))

      high : h / 2 ^ j / 2 ^ suc m ≡ p
      high = shr-shr h j (suc m) ∙ ap (λ i. h / 2 ^ i) (omega (arith, e))

      whole : p * 2 ^ suc m + (h / 2 ^ j) % 2 ^ suc m ≡ h / 2 ^ j
      whole = ap (λ x. x * 2 ^ suc m + (h / 2 ^ j) % 2 ^ suc m) (sym high) ∙ shr_split (h / 2 ^ j) (suc m)

      go :
          (b : Bool) → disagrees lines n (suc k) ≡ b
          → (q ≡ p → Covers (h / 2 ^ j) (driven_below (suc k) lines n / 2 ^ j))
          → Covers (h / 2 ^ j) (cond b (q * 2 ^ suc k) (driven_below (suc k) lines n) / 2 ^ j)
      go true d rest =
          let covered = covers_shifted (suc m) q p ((h / 2 ^ j) % 2 ^ suc m) (covers_half q p halves less)
          (mod_below (h / 2 ^ j) (2 ^ suc m) (pow_pos (suc m))) in
          subst (λ (x : ℕ). Covers (h / 2 ^ j) x) (sym seen) (subst (λ (y : ℕ). Covers y (q * 2 ^ suc m)) whole covered)
      go false d rest = rest (level (disagrees-false lines n (suc k) d))
        where
          level : ((lines / 2 ^ suc k) % 2 ≡ 0) ⊎ (q % 2 ≡ 1) → q ≡ p
          level (inl off) = let bit : p % 2 ≡ 0 = ap (λ x. x % 2) (sym same) ∙ off in omega (arith, bit, halves, less)
          level (inr on) = omega (arith, on, halves, less)

-- ---- all boards together

-- What covers each value from a bit on covers what is on the lines.
wired_covered :
    (j high : ℕ) (values : List ℕ) → AllByRecursion (λ v. Covers high (v / 2 ^ j)) values
    → Covers high (wired_lines values / 2 ^ j)
wired_covered j high [] each =
    let low : 0 / 2 ^ j ≤ 0 = shr_le 0 j in
    let none : 0 ≡ 0 / 2 ^ j = omega (arith, low) in
    subst (λ (x : ℕ). Covers high x) none (covers_zero high)
wired_covered j high (v ∷ values) each =
    let both = covers_or (v / 2 ^ j) (wired_lines values / 2 ^ j) high each.0 (wired_covered j high values each.1) in
    subst (λ (x : ℕ). Covers high x) (sym (or_shr v (wired_lines values) j)) both

-- And the lines have all its bits where one value has.
pub wired_is :
    (j high : ℕ) (values : List ℕ) (value : ℕ) → AllByRecursion (λ v. Covers high (v / 2 ^ j)) values → In value values
    → value / 2 ^ j ≡ high → wired_lines values / 2 ^ j ≡ high
wired_is j high [] value each there is = absurd there
wired_is j high (v ∷ values) value each (inl e) is =
    let first : v / 2 ^ j ≡ high = ap (λ x. x / 2 ^ j) (sym e) ∙ is in
    or_shr v (wired_lines values) j ∙ ap (λ x. bit_or x (wired_lines values / 2 ^ j)) first
    ∙ or_comm high (wired_lines values / 2 ^ j) ∙ wired_covered j high values each.1
wired_is j high (v ∷ values) value each (inr there) is =
    or_shr v (wired_lines values) j ∙ ap (bit_or (v / 2 ^ j)) (wired_is j high values value each.1 there is) ∙ each.0

pub own_driven :
    (lines h j : ℕ) → j ≤ 9 → lines / 2 ^ suc j ≡ h / 2 ^ suc j → driven_below 10 lines h / 2 ^ j ≡ h / 2 ^ j
own_driven lines h j within agree = own lines h j agree (9 - j) 9 (omega (arith, within))

pub part_driven :
    (lines h j n : ℕ) → j ≤ 9 → n ≤ h → h ≤ 1023 → lines / 2 ^ suc j ≡ h / 2 ^ suc j
    → Covers (h / 2 ^ j) (driven_below 10 lines n / 2 ^ j)
part_driven lines h j n within below ten_bits agree =
    let none : n / 2 ^ suc 9 ≡ h / 2 ^ suc 9 = omega (arith, below, ten_bits) in
    part lines h j agree n below (9 - j) 9 (omega (arith, within)) none

pub smaller_quotient : (x y k : ℕ) → x ≤ y → x / 2 ^ k ≤ y / 2 ^ k
smaller_quotient = smaller

-- ---- what is driven, looked at from this bit down

pub driven_stays :
    (bit lines n : ℕ) → 0 < bit → (has_bit lines (bit - 1) && not (has_bit n (bit - 1))) ≡ false
    → driven_below bit lines n ≡ driven_below (bit - 1) lines n
unfolding driven_below
driven_stays zero lines n h same = absurd (omega arith)
driven_stays (suc k) lines n h same =
    let back : suc k - 1 ≡ k = omega arith in
    let here : (has_bit lines k && not (has_bit n k)) ≡ false =
    subst (λ (i : ℕ). (has_bit lines i && not (has_bit n i)) ≡ false) back same in
    rw (back, here) refl

pub driven_clears :
    (bit lines n : ℕ) → 0 < bit → (has_bit lines (bit - 1) && not (has_bit n (bit - 1))) ≡ true
    → driven_below bit lines n ≡ n / 2 ^ (bit - 1) * 2 ^ (bit - 1)
unfolding driven_below
driven_clears zero lines n h other = absurd (omega arith)
driven_clears (suc k) lines n h other =
    let back : suc k - 1 ≡ k = omega arith in
    let here : (has_bit lines k && not (has_bit n k)) ≡ true =
    subst (λ (i : ℕ). (has_bit lines i && not (has_bit n i)) ≡ true) back other in
    rw (back, here) refl

pub driven_whole : (bit lines n : ℕ) → bit ≤ 0 → driven_below bit lines n ≡ n
unfolding driven_below
driven_whole zero lines n h = refl
driven_whole (suc k) lines n h = absurd (omega arith)
