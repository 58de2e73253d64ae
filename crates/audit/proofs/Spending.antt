-- Draws that are spent one after another, and counts that stay low while boards change.
use Rattle.std.proofs.Common.{◌≡◌, ℕ, suc, ◌+◌, ◌<◌, ◌≤◌, Bool, true, false, cond, List, [], ◌∷◌, ◌++◌, length, get_or, take, refl, ap, sym, ◌∙◌, arith}
use Rattle.std.proofs.lemmas.List.{take_more}
use Rattle.coherence.proofs.Lists.{all-weaker}
use Rattle.coherence.proofs.Places.{all-change_place}
use Rattle.bus_model.specs.Places.{change_place}
use Rattle.bus_model.specs.Events.{Answer}
use Rattle.moesi_state.specs.declared.State.{State}
use Rattle.moesi_state.specs.States.{holds}
use Rattle.bus_model.specs.Configuration.{Configuration, Progress, has_row}
use Rattle.bus_model.specs.Effects.{change_copy, completed, fill_copy, filled, put_copy, spent, answered}
use Rattle.audit.specs.Parts.{PlacesBelow, SpentBelow}

answered-push :
    (boards : List Progress) (answers : List Answer) (a : Answer)
    → answered boards (answers ++ a ∷ []) ≡ change_place spent (answered boards answers) a.board
answered-push boards [] a = refl
answered-push boards (x ∷ xs) a = answered-push (change_place spent boards x.board) xs a

-- One more answering board spends a draw.
pub answered-more :
    (boards now next : List Progress) (answers : List Answer) (i : ℕ) (d : Answer) → i < length answers
    → now ≡ answered boards (take i answers)
    → next ≡ change_place spent now (get_or answers i d).board → next ≡ answered boards (take (i + 1) answers)
answered-more boards now next answers i d l e n =
    n ∙ ap (λ (r : List Progress). change_place spent r (get_or answers i d).board) e
    ∙ sym (ap (λ (xs : List Answer). answered boards xs) (take_more answers i d l)
    ∙ answered-push boards (take i answers) (get_or answers i d))

pub spent-weaker : (n m : ℕ) (boards : List Progress) → n ≤ m → SpentBelow n boards → SpentBelow m boards
spent-weaker n m boards l h =
    all-weaker (λ (p : Progress). p.spent < n) (λ (p : Progress). p.spent < m) (λ p k. omega arith) boards h

pub spent-next :
    (n : ℕ) (boards : List Progress) (board : ℕ) → SpentBelow n boards
    → SpentBelow (suc n) (change_place spent boards board)
spent-next n boards board h =
    all-change_place (λ (p : Progress). p.spent < n) (λ (p : Progress). p.spent < suc n) spent (λ p k. omega arith)
    (λ p k. omega arith) boards board h

pub spent-completed :
    (n : ℕ) (boards : List Progress) (board : ℕ) → SpentBelow n boards
    → SpentBelow n (change_place completed boards board)
spent-completed n boards board h =
    all-change_place (λ (p : Progress). p.spent < n) (λ (p : Progress). p.spent < n) completed (λ p k. k) (λ p k. k)
    boards board h

-- A copy that is put leaves places and draws as they are.
module _ (c : Configuration) (board line : ℕ) (state : State) (words : List ℕ) (n : ℕ) where
  pub put-places : PlacesBelow n c.boards → PlacesBelow n (put_copy c board line state words).boards
  put-places h = go (has_row c.rows board line) (holds state)
    where
      go :
          (b d : Bool)
          → PlacesBelow n (cond b (change_copy c board line state words)
          (cond d (fill_copy c board line state words) c)).boards
      go true d = h
      go false true =
          all-change_place (λ (p : Progress). p.place < n) (λ (p : Progress). p.place < n) filled (λ p k. k) (λ p k. k)
          c.boards board h
      go false false = h

  pub put-spent : SpentBelow n c.boards → SpentBelow n (put_copy c board line state words).boards
  put-spent h = go (has_row c.rows board line) (holds state)
    where
      go :
          (b d : Bool)
          → SpentBelow n (cond b (change_copy c board line state words)
          (cond d (fill_copy c board line state words) c)).boards
      go true d = h
      go false true =
          all-change_place (λ (p : Progress). p.spent < n) (λ (p : Progress). p.spent < n) filled (λ p k. k) (λ p k. k)
          c.boards board h
      go false false = h
