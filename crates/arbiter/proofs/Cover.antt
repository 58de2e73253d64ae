-- A number covers another where it has each bit that the other has.
use Rattle.std.proofs.Common.{◌≡◌, ℕ, ◌+◌, ◌*◌, ◌/◌, ◌^◌, ◌<◌, ◌≤◌, refl, sym, ap, ◌∙◌, subst, arith, max, inl, inr, ◌⊎◌}
use Rattle.std.specs.Prelude.{bit_or}
use Rattle.std.specs.Int.Bits.{or_self, or_zero_l}
use Rattle.std.proofs.lemmas.Nat.{or_block}
use Rattle.std.proofs.lemmas.Nat.Bits.{bit_at_or, same_from_bits}
use Rattle.std.proofs.lemmas.Bool.{cases_lt}
use Rattle.std.specs.Int.{bit_at}

-- The number h has each bit that x has.
abbrev pub Covers : ℕ → ℕ → Type 0
Covers h x = bit_or x h ≡ h

pub or_assoc : (a b c : ℕ) → bit_or (bit_or a b) c ≡ bit_or a (bit_or b c)
or_assoc a b c = same_from_bits (bit_or (bit_or a b) c) (bit_or a (bit_or b c)) same
  where
    same : (i : ℕ) → bit_at (bit_or (bit_or a b) c) i ≡ bit_at (bit_or a (bit_or b c)) i
    same i =
        let left : bit_at (bit_or (bit_or a b) c) i ≡ max (max (bit_at a i) (bit_at b i)) (bit_at c i) =
        bit_at_or (bit_or a b) c i ∙ ap (λ x. max x (bit_at c i)) (bit_at_or a b i) in
        let right : bit_at (bit_or a (bit_or b c)) i ≡ max (bit_at a i) (max (bit_at b i) (bit_at c i)) =
        bit_at_or a (bit_or b c) i ∙ ap (λ x. max (bit_at a i) x) (bit_at_or b c i) in
        let even : max (max (bit_at a i) (bit_at b i)) (bit_at c i) ≡ max (bit_at a i) (max (bit_at b i) (bit_at c i)) =
        omega arith in
        left ∙ even ∙ sym right

pub covers_zero : (h : ℕ) → Covers h 0
covers_zero h = or_zero_l h

pub covers_self : (h : ℕ) → Covers h h
covers_self h = or_self h

-- What covers two numbers covers both together.
pub covers_or : (a b h : ℕ) → Covers h a → Covers h b → Covers h (bit_or a b)
covers_or a b h p q = or_assoc a b h ∙ ap (bit_or a) q ∙ p

covers_next : (a : ℕ) → Covers (a * 2 ^ 1 + 1) (a * 2 ^ 1 + 0)
covers_next a = or_block 1 a a 0 1 (omega arith) (omega arith) ∙ ap (λ x. x * 2 ^ 1 + 1) (or_self a)

-- Of two numbers that differ in the lowest bit at most, the larger covers the smaller.
pub covers_half : (x h : ℕ) → x / 2 ≡ h / 2 → x ≤ h → Covers h x
covers_half x h same below = go (cases_lt x h)
  where
    go : (x < h) ⊎ (h ≤ x) → Covers h x
    go (inl less) =
        let low : (x / 2) * 2 ^ 1 + 0 ≡ x = omega arith in
        let high : (x / 2) * 2 ^ 1 + 1 ≡ h = omega arith in
        subst (λ (y : ℕ). Covers y x) high (subst (λ (y : ℕ). Covers ((x / 2) * 2 ^ 1 + 1) y) low (covers_next (x / 2)))
    go (inr more) = let even : x ≡ h = omega arith in subst (λ (y : ℕ). Covers h y) (sym even) (covers_self h)

-- A number still covers another with the same bits appended to both, or with any appended to it.
pub covers_shifted : (m x h r : ℕ) → Covers h x → r < 2 ^ m → Covers (h * 2 ^ m + r) (x * 2 ^ m)
covers_shifted m x h r covers low =
    let zeros : x * 2 ^ m + 0 ≡ x * 2 ^ m = omega arith in
    let positive : 0 < 2 ^ m = omega (arith, low) in
    let block : bit_or (x * 2 ^ m + 0) (h * 2 ^ m + r) ≡ bit_or x h * 2 ^ m + bit_or 0 r =
    or_block m x h 0 r positive low in
    let filled : bit_or x h * 2 ^ m + bit_or 0 r ≡ h * 2 ^ m + r = rw (covers, or_zero_l r) refl in
    subst (λ (y : ℕ). Covers (h * 2 ^ m + r) y) zeros (block ∙ filled)
