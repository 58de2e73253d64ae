-- Boards that have raised a request.
use Rattle.std.proofs.Common.{None, Option, [], ap, arith, false, inl, inr, length, refl, suc, sym, true, zero, List, ℕ, ◌<◌, ◌∙◌, ◌∷◌, ◌≡◌, ◌≤◌, ◌⊎◌}
use Rattle.std.proofs.lemmas.Bool.{cases_lt}
use Rattle.std.specs.Prelude.{slice_get, unwrap_or}
use Rattle.bus_model.specs.Configuration.{Progress, fresh, is_raised}

past_end : (boards : List Progress) (k : ℕ) → length boards ≤ k → slice_get boards k ≡ None
past_end [] k h = refl
past_end (p ∷ boards) zero h = absurd (omega arith)
past_end (p ∷ boards) (suc k) h = past_end boards k (omega arith)

-- A board that has raised a request is there.
pub raised_within :
    (boards : List Progress) (board : ℕ) → is_raised boards board ≡ true → (1 ≤ board) × (board ≤ length boards)
raised_within boards zero e = cc
raised_within boards (suc k) e = go (cases_lt k (length boards))
  where
    go : (k < length boards) ⊎ (length boards ≤ k) → (1 ≤ suc k) × (suc k ≤ length boards)
    go (inl h) = (omega arith, omega arith)
    go (inr h) =
        let none : false ≡ true =
        sym (ap (λ (o : Option Progress). (unwrap_or o fresh).raised) (past_end boards k h)) ∙ e in
        cc
