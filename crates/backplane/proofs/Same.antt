-- A test of pairs tells whether lists are the same, where its test of elements tells whether those are.
use Rattle.std.proofs.Common.{◌≡◌, Bool, true, ◌&&◌, ◌==◌, ℕ}
use Rattle.std.proofs.lemmas.Bool.{and_from, and_parts, eq-eqb, eqb-true}

-- Boards are the same where their numbers are.
pub boards_decide : (x y : ℕ) → ((x == y) ≡ true → x ≡ y) × (x ≡ y → (x == y) ≡ true)
boards_decide x y = (eqb-true x y, eq-eqb x y)

-- Pairs are the same where both parts are.
pub pairs_decide :
    {A B : Type 0} (E : A → A → Bool) (F : B → B → Bool) → ((x y : A) → (E x y ≡ true → x ≡ y) × (x ≡ y → E x y ≡ true))
    → ((x y : B) → (F x y ≡ true → x ≡ y) × (x ≡ y → F x y ≡ true)) → (x y : A × B)
    → ((E x.0 y.0 && F x.1 y.1) ≡ true → x ≡ y) × (x ≡ y → (E x.0 y.0 && F x.1 y.1) ≡ true)
pairs_decide E F first second x y = (
  λ h. let p =
      and_parts (E x.0 y.0) (F x.1 y.1) h in let a = (first x.0 y.0).0 p.0 in let b = (second x.1 y.1).0 p.1 in
      λ i. (a i, b i),
  λ e. and_from (E x.0 y.0) (F x.1 y.1) ((first x.0 y.0).1 (λ i. (e i).0)) ((second x.1 y.1).1 (λ i. (e i).1)),
)
