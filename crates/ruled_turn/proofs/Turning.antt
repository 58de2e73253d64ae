-- What a view is after each step of a turn, and what the whole turn tells.
use Rattle.std.proofs.Common.{◌≡◌, ℕ, ◌+◌, List, [], ◌∷◌, Option, Some, None, sym, ap, ◌∙◌, subst}
use Rattle.atomic_table.specs.Table.{Me, rest}
use Rattle.ruled_turn.specs.declared.view.View.{View}
use Rattle.ruled_turn.specs.Entries.{of, GoesOn, Grows, Turns}
use Rattle.ruled_turn.specs.Views.{idle, account, resting, seen_by, mine_of, number_of, with_ticket, with_value, with_entry, without_value, without_ticket}
use Rattle.ruled_turn.proofs.Entries.{turned}
use Rattle.ruled_turn.proofs.Members.{same_some}

abbrev Stand : Type 0 → Type 0 → Type 0 → Type 0
Stand M B E = Me (Option M) (View B E)

-- At its turn, with the value.
abbrev pub with_list : {B E : Type 0} → ℕ → ℕ → ℕ → List (ℕ × E) → View B E → View B E
with_list n t ticket list v = with_value list (with_ticket ticket (resting n t v))

module _ {M B E : Type 0} where
  pub drew_ticket :
      (n t ticket : ℕ) (m m₁ : Stand M B E) → m ≡ (resting n t m.0, []) → m₁ ≡ (with_ticket ticket m.0, m.1)
      → m₁ ≡ (with_ticket ticket (resting n t m.0), [])
  drew_ticket n t ticket m m₁ rests drew = drew ∙ ap (λ (x : Stand M B E). (with_ticket ticket x.0, x.1)) rests

  pub put_value :
      (n t ticket : ℕ) (list : List (ℕ × E)) (value : M) (m m₁ m₂ m₃ : Stand M B E)
      → m₁ ≡ (with_ticket ticket (resting n t m.0), []) → m₂ ≡ (with_value list m₁.0, (0, None) ∷ [])
      → m₃ ≡ (m₂.0, (0, Some value) ∷ rest m₂.1) → m₃ ≡ (with_list n t ticket list m.0, (0, Some value) ∷ [])
  put_value n t ticket list value m m₁ m₂ m₃ drew took put =
      put ∙ (ap (λ (x : Stand M B E). (x.0, (0, Some value) ∷ rest x.1)) took
      ∙ ap (λ (x : Stand M B E). (with_value list x.0, (0, Some value) ∷ [])) drew)

  pub entered_list :
      (n t ticket : ℕ) (before list : List (ℕ × E)) (value : M) (m m₃ m₄ : Stand M B E)
      → m₃ ≡ (with_list n t ticket before m.0, (0, Some value) ∷ []) → m₄ ≡ (with_entry list m₃.0, m₃.1)
      → m₄ ≡ (with_entry list (with_list n t ticket before m.0), (0, Some value) ∷ [])
  entered_list n t ticket before list value m m₃ m₄ put entered =
      entered ∙ ap (λ (x : Stand M B E). (with_entry list x.0, x.1)) put

  pub gave_value :
      (n t ticket : ℕ) (before list : List (ℕ × E)) (value : M) (m m₄ m₅ : Stand M B E)
      → m₄ ≡ (with_entry list (with_list n t ticket before m.0), (0, Some value) ∷ []) → m₅ ≡ (without_value m₄.0, [])
      → m₅ ≡ (without_value (with_entry list (with_list n t ticket before m.0)), [])
  gave_value n t ticket before list value m m₄ m₅ entered gave =
      gave ∙ ap (λ (x : Stand M B E). (without_value x.0, [])) entered

  pub left_turn :
      (n t ticket : ℕ) (before list : List (ℕ × E)) (m m₅ m₆ : Stand M B E)
      → m₅ ≡ (without_value (with_entry list (with_list n t ticket before m.0)), []) → m₆ ≡ (without_ticket m₅.0, m₅.1)
      → m₆ ≡ (idle m.0.base (account n list (of n list) (t + 1) ∷ []), [])
  left_turn n t ticket before list m m₅ m₆ gave left = left ∙ ap (λ (x : Stand M B E). (without_ticket x.0, x.1)) gave

  pub whole_turn :
      (base : M → B) (entries : M → List (ℕ × E)) (Replies : B → List (ℕ × E) → List (ℕ × E) → Type 0) (n t ticket : ℕ)
      (b : B) (value value' : M) (m m₁ m₆ : Stand M B E)
      → m₁ ≡ (with_ticket ticket (resting n t m.0), [])
      → m₆ ≡ (idle m.0.base (account n (entries value') (of n (entries value')) (t + 1) ∷ []), [])
      → m.0.base ≡ Some b → m₁.0.base ≡ Some (base value) → GoesOn (seen_by m₁.0) (entries value)
      → mine_of m₁.0 ≡ of (number_of m₁.0) (entries value)
      → Grows n (entries value) (entries value') → Replies (base value) (entries value) (entries value')
      → Turns n (Replies b) (seen_by m.0) (mine_of m.0) (seen_by m₆.0) (mine_of m₆.0)
  whole_turn base entries Replies n t ticket b value value' m m₁ m₆ drew left is was on mine grows replies =
      let same : base value ≡ b = same_some (base value) b (sym was ∙ (ap (λ (x : Stand M B E). x.0.base) drew ∙ is)) in
      let on' : GoesOn (seen_by m.0) (entries value) =
      subst (λ (x : List (ℕ × E)). GoesOn x (entries value)) (ap (λ (x : Stand M B E). seen_by x.0) drew) on in
      let mine' : mine_of m.0 ≡ of n (entries value) =
      sym (ap (λ (x : Stand M B E). mine_of x.0) drew)
      ∙ (mine ∙ ap (λ (x : Stand M B E). of (number_of x.0) (entries value)) drew) in
      subst (λ (x : Stand M B E). Turns n (Replies b) (seen_by m.0) (mine_of m.0) (seen_by x.0) (mine_of x.0))
      (sym left)
      (turned n (Replies b) (seen_by m.0) (mine_of m.0) (entries value) (entries value') on' mine' grows
      (subst (λ (x : B). Replies x (entries value) (entries value')) same replies))
