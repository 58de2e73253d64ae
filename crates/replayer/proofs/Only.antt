-- Only one answer is right about a trace.
use Rattle.std.proofs.Common.{◌≡◌, ℕ, ◌+◌, List, [], ◌∷◌, ◌++◌, Option, Some, None, length, refl, sym, ap, ◌∙◌, arith}
use Rattle.std.specs.Prelude.{Ok, Err}
use Rattle.std.specs.List.{AllByRecursion}
use Rattle.trace_text.specs.Ranges.{InRange}
use Rattle.trace_text.specs.Spelling.{text_of_event}
use Rattle.bus_model.specs.Setup.{Setup}
use Rattle.bus_model.specs.Events.{Event}
use Rattle.backplane.specs.Machine.{Machine, configuration_after, happened, opened, MayHappen}
use Rattle.replayer.specs.declared.fault.ReplayFault.TheVariants.{Spelling, NotARun, Unfinished}
use Rattle.replayer.specs.Lines.{Line, closed_line, event_of, event_lines}
use Rattle.replayer.specs.Traces.{by_step, by_event, outcome}
use Rattle.replayer.proofs.Meanings.{event_spelled}
use Rattle.replayer.specs.Replaying.{step, accepted, close}
use Rattle.replayer.specs.Runs.{BeginWithRun, IsOnlyAnswer}
use Rattle.replayer.proofs.Stepping.{step_may, step_not}
use Rattle.replayer.proofs.Tracing.{after_events, MayAll, line_is, may_of}
use Rattle.replayer.proofs.Saying.{after_opened, accepts}

-- The lines of events that may happen are passed.
passed :
    (machine : Machine) (number : ℕ) (events : List Event) (rest : List Line) → AllByRecursion InRange events
    → MayAll machine events
    → outcome step close machine number (event_lines events ++ rest)
    ≡ outcome step close (after_events machine events) (number + length events) rest
passed machine number [] rest all may =
    let e : number ≡ number + 0 = omega arith in ap (λ (n : ℕ). outcome step close machine n rest) e
passed machine number (event ∷ events) rest all may =
    let e : number + 1 + length events ≡ number + length (event ∷ events) = omega arith in
    rw (event_spelled (text_of_event event) event all.0 refl, step_may machine event may.0)
    (passed (happened machine event) (number + 1) events rest all.1 may.1
    ∙ ap (λ (n : ℕ). outcome step close (after_events (happened machine event) events) n rest) e)

-- What the lines after those of a run come to.
behind :
    (setup : Setup) (lines : List Line) (events : List Event) (rest : List Line) (number : ℕ)
    → BeginWithRun setup lines events rest → number ≡ length events + 1
    → outcome step close (opened setup) 1 lines
    ≡ outcome step close (record { setup = setup; journal = events }) number rest
behind setup lines events rest number is counted =
    let may = may_of (opened setup) events (configuration_after setup events) is.run in
    let e : 1 + length events ≡ number = omega arith in
    ap (outcome step close (opened setup) 1) is.are
    ∙ (passed (opened setup) 1 events rest is.spelled may
    ∙ (λ i. outcome step close (after_opened setup events i) (e i) rest))

no_event :
    (line : Line) → ((event : Event) → InRange event → line ≡ closed_line (text_of_event event) → ⊥)
    → event_of line ≡ None
no_event line unspelled = go (event_of line) refl
  where
    go : (o : Option Event) → event_of line ≡ o → o ≡ None
    go None is = refl
    go (Some event) is = let s = line_is line event is in absurd (unspelled event s.0 s.1)

misspelled_told :
    (machine : Machine) (number : ℕ) (line : Line) (rest : List Line) → event_of line ≡ None
    → Err (Spelling number) ≡ outcome step close machine number (line ∷ rest)
misspelled_told machine number line rest none =
    ap (λ (o : Option Event). by_event step machine Err (λ next. outcome step close next (number + 1) rest) number o)
    (sym none)

no_step_told :
    (machine : Machine) (number : ℕ) (event : Event) (rest : List Line) → InRange event → (MayHappen machine event → ⊥)
    → Err (NotARun number) ≡ outcome step close machine number (closed_line (text_of_event event) ∷ rest)
no_step_told machine number event rest in_range not =
    ap (λ (o : Option Machine). by_step Err (λ next. outcome step close next (number + 1) rest) number o)
    (sym (step_not machine event not))
    ∙ ap (λ (o : Option Event). by_event step machine Err (λ next. outcome step close next (number + 1) rest) number o)
    (sym (event_spelled (text_of_event event) event in_range refl))

-- The answer that is right is the outcome.
pub only : (setup : Setup) (lines : List Line) → IsOnlyAnswer setup lines (outcome step close (opened setup) 1 lines)
only setup lines (Ok m) says =
    let same : record { setup = setup; journal = m.journal } ≡ m =
    let e = says.0 in λ i. record { setup = sym e i; journal = m.journal } in
    sym (accepts setup lines 1 m.journal says.1 ∙ ap Ok same)
only setup lines (Err (Spelling number)) says =
    let events = says.0 in let line = says.1 in let rest = says.2 in let is = says.3 in
    misspelled_told (record { setup = setup; journal = events }) number line rest (no_event line is.unspelled)
    ∙ sym (behind setup lines events (line ∷ rest) number is.run is.counted)
only setup lines (Err (NotARun number)) says =
    let events = says.0 in let event = says.1 in let rest = says.2 in let is = says.3 in
    no_step_told (record { setup = setup; journal = events }) number event rest is.spelled is.no_step
    ∙ sym (behind setup lines events (closed_line (text_of_event event) ∷ rest) number is.run is.counted)
only setup lines (Err (Unfinished board)) says =
    let events = says.0 in let is = says.1 in
    ap (accepted (record { setup = setup; journal = events })) (sym is.lowest)
    ∙ sym (behind setup lines events [] (length events + 1) is.run refl)
