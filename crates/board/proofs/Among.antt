-- What is picked from a list is in it.
use Rattle.std.proofs.Common.{◌≡◌, ℕ, zero, suc, ◌<◌, Bool, true, false, List, [], ◌∷◌, length, get_or, refl, arith, Option, Some, None}
use Rattle.std.specs.Prelude.{◌||◌, ◌==◌}
use Rattle.std.specs.Bool.{beq}
use Rattle.std.proofs.lemmas.Bool.Decides.{nat_tests}
use Rattle.bus_signals.specs.declared.BusEvent.{BusEvent}
use Rattle.bus_signals.specs.Signals.{event_number}
use Rattle.moesi_state.specs.declared.Outcome.{Outcome}
use Rattle.moesi_state.specs.declared.Outcome.TheVariants.{Fixed, OnHit}
use Rattle.moesi_state.specs.States.{state_number}
use Rattle.moesi_state.specs.Outcomes.{same_outcome}
use Rattle.class_relation.specs.declared.LocalAction.{LocalAction}
use Rattle.class_relation.specs.declared.SnoopAction.{SnoopAction}
use Rattle.class_relation.specs.Actions.{has_answer, has_local, same_answer, same_bus, same_local}

same-bool : (b : Bool) → beq b b ≡ true
same-bool true = refl
same-bool false = refl

same-number : (n : ℕ) → (n == n) ≡ true
same-number n = grind (arith, nat_tests)

or-true : (b : Bool) → (b || true) ≡ true
or-true true = refl
or-true false = refl

same-answer : (a : SnoopAction) → same_answer a a ≡ true
same-answer a =
    rw (same-number (state_number a.result), same-bool a.response.ch, same-bool a.response.di, same-bool a.response.sl)
    refl

same-outcome : (o : Outcome) → same_outcome o o ≡ true
same-outcome (Fixed s) = same-number (state_number s)
same-outcome (OnHit s t) = rw (same-number (state_number s), same-number (state_number t)) refl

same-bus : (o : Option BusEvent) → same_bus o o ≡ true
same-bus None = refl
same-bus (Some e) = same-number (event_number e)

same-local : (a : LocalAction) → same_local a a ≡ true
same-local a = rw (same-outcome a.result, same-bus a.bus) refl

-- An answer at a place of a list is in it.
pub answer-among :
    (xs : List SnoopAction) (i : ℕ) (d : SnoopAction) → i < length xs → has_answer xs (get_or xs i d) ≡ true
answer-among [] i d l = absurd (omega arith)
answer-among (x ∷ xs) zero d l = rw (same-answer x) refl
answer-among (x ∷ xs) (suc i) d l = rw (answer-among xs i d (omega arith)) (or-true _)

-- A local alternative at a place of a list is in it.
pub local-among :
    (xs : List LocalAction) (i : ℕ) (d : LocalAction) → i < length xs → has_local xs (get_or xs i d) ≡ true
local-among [] i d l = absurd (omega arith)
local-among (x ∷ xs) zero d l = rw (same-local x) refl
local-among (x ∷ xs) (suc i) d l = rw (local-among xs i d (omega arith)) (or-true _)
