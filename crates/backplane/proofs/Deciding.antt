-- Tests taken together.
use Rattle.std.proofs.Common.{Bool, List, [], ap, false, not, refl, true, ◌∙◌, ◌∷◌, ◌≡◌, sym}
use Rattle.std.proofs.lemmas.Bool.{and_from, and_parts, not-true}
use Rattle.std.specs.Prelude.{◌↔◌, ◌||◌}
use Rattle.std.specs.List.{list_all}

-- All of the facts hold.
abbrev pub all_of : List Bool → Bool
all_of facts = list_all (λ (fact : Bool). fact) facts

pub none_left : (all_of [] ≡ true) ↔ Unit {0}
none_left = (λ h. tt, λ u. refl)

pub one_more :
    (b : Bool) (rest : List Bool) (P Q : Type 0) → ((b ≡ true) ↔ P) → ((all_of rest ≡ true) ↔ Q)
    → ((all_of (b ∷ rest) ≡ true) ↔ (P × Q))
one_more b rest P Q d e = (
  λ h. let p = and_parts b (all_of rest) h in (d.0 p.0, e.0 p.1),
  λ h. and_from b (all_of rest) (d.1 h.0) (e.1 h.1),
)

-- A test that equals another decides the same fact.
pub as_well : (a b : Bool) (P : Type 0) → a ≡ b → ((b ≡ true) ↔ P) → ((a ≡ true) ↔ P)
as_well a b P e d = (λ h. d.0 (sym e ∙ h), λ h. e ∙ d.1 h)

pub itself : (a b : Bool) → a ≡ b → ((a ≡ true) ↔ (b ≡ true))
itself a b e = (λ h. sym e ∙ h, λ h. e ∙ h)

pub negated : (a b : Bool) → a ≡ b → ((not a ≡ true) ↔ (b ≡ false))
negated a b e = (λ h. sym e ∙ not-true a h, λ h. ap not (e ∙ h))

pub unless : (a h q : Bool) → a ≡ (not h || q) → ((a ≡ true) ↔ (h ≡ true → q ≡ true))
unless a true q e = (λ k u. sym e ∙ k, λ k. e ∙ k refl)
unless a false q e = (λ k u. cc, λ k. e)
