-- Facts that can be tested.
use Rattle.std.proofs.Common.{◌⊎◌, inl, inr, Bool, true, false, refl}
use Rattle.std.specs.Prelude.{IsTrue, IsFalse}

-- A fact holds, or it does not.
abbrev pub Known : Type 0 → Type 0
Known P = P ⊎ (P → ⊥)

-- A fact is decided where an equivalent one is.
pub known_as : {P Q : Type 0} → (P → Q) → (Q → P) → Known P → Known Q
known_as f g (inl p) = inl (f p)
known_as f g (inr n) = inr (λ q. n (g q))

pub known_both : {P Q : Type 0} → Known P → Known Q → Known (P × Q)
known_both (inl p) (inl q) = inl (p, q)
known_both (inr n) q = inr (λ both. n both.0)
known_both (inl p) (inr n) = inr (λ both. n both.1)

pub known_either : {P Q : Type 0} → Known P → Known Q → Known (P ⊎ Q)
known_either (inl p) q = inl (inl p)
known_either (inr n) (inl q) = inl (inr q)
known_either {P} {Q} (inr n) (inr m) = inr (λ e. neither e)
  where
    neither : P ⊎ Q → ⊥
    neither (inl p) = n p
    neither (inr q) = m q

pub known_if : {P Q : Type 0} → Known P → Known Q → Known (P → Q)
known_if p (inl q) = inl (λ _. q)
known_if (inr n) (inr m) = inl (λ p. absurd (n p))
known_if (inl p) (inr m) = inr (λ f. m (f p))

pub known_true : (b : Bool) → Known (IsTrue b)
known_true true = inl refl
known_true false = inr (λ h. cc)

pub known_false : (b : Bool) → Known (IsFalse b)
known_false true = inr (λ h. cc)
known_false false = inl refl
