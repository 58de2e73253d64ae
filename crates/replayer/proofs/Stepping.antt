-- The step that a machine makes of an event.
use Rattle.std.proofs.Common.{◌≡◌, ℕ, ◌+◌, ◌⊎◌, inl, inr, [], ◌∷◌, Option, Some, None, refl, sym, ap, ◌∙◌, arith, length-append}
use Rattle.bus_model.specs.Events.{Event}
use Rattle.backplane.specs.Machine.{Machine, configuration, happened, MayHappen}
use Rattle.replayer.specs.declared.fault.ReplayFault.TheVariants.{NotARun}
use Rattle.replayer.specs.Traces.{reading, refused, by_step}
use Rattle.coherence.proofs.Decided.{decided}
use Rattle.replayer.specs.declared.stage.Stage.TheVariants.{Reading, Refused}
use Rattle.replayer.specs.Replaying.{step, stepped}
use Rattle.replayer.specs.Standing.{number_of_next, place_of, at_event}

pub step_may :
    (machine : Machine) (event : Event) → MayHappen machine event → step machine event ≡ Some (happened machine event)
unfolding step
step_may machine event may = go (decided machine.setup (configuration machine) event)
  where
    go :
        (d : MayHappen machine event ⊎ (MayHappen machine event → ⊥))
        → stepped machine event d ≡ Some (happened machine event)
    go (inl it) = refl
    go (inr not) = absurd (not may)

pub step_not : (machine : Machine) (event : Event) → (MayHappen machine event → ⊥) → step machine event ≡ None
unfolding step
step_not machine event not = go (decided machine.setup (configuration machine) event)
  where
    go : (d : MayHappen machine event ⊎ (MayHappen machine event → ⊥)) → stepped machine event d ≡ None
    go (inl may) = absurd (not may)
    go (inr it) = refl

longer : (machine : Machine) (event : Event) → number_of_next (happened machine event) ≡ number_of_next machine + 1
longer machine event = let l = length-append machine.journal (event ∷ []) in omega arith

-- A step leads to the next line.
pub event_taken :
    (old new : Machine) (event : Event) → MayHappen old event → new ≡ happened old event
    → place_of new [] Reading ≡ at_event old (number_of_next old) event
event_taken old new event may is =
    ap (λ (m : Machine). place_of m [] Reading) is
    ∙ (ap (λ (n : ℕ). reading (happened old event) n []) (longer old event)
    ∙ ap (λ (o : Option Machine).
    by_step refused (λ next. reading next (number_of_next old + 1) []) (number_of_next old) o)
    (sym (step_may old event may)))

-- Any other event is a fault of its line.
pub event_refused :
    (old new : Machine) (line : ℕ) (event : Event) → (MayHappen old event → ⊥) → line ≡ number_of_next old
    → place_of new [] (Refused (NotARun line)) ≡ at_event old (number_of_next old) event
event_refused old new line event not is =
    ap (λ (n : ℕ). refused (NotARun n)) is
    ∙ ap (λ (o : Option Machine).
    by_step refused (λ next. reading next (number_of_next old + 1) []) (number_of_next old) o)
    (sym (step_not old event not))
