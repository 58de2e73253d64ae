-- What the answers of a replay say of runs.
use Rattle.std.proofs.Common.{◌≡◌, ℕ, List, [], ◌∷◌, Option, Some, None, refl, sym, ap, ◌∙◌, arith, append-nil, subst}
use Rattle.std.specs.Prelude.{Result, Ok, Err, find, is_some, IfOk}
use Rattle.trace_text.specs.Ranges.{InRange}
use Rattle.trace_text.specs.Spelling.{text_of_event}
use Rattle.bus_model.specs.Setup.{Setup, board_places}
use Rattle.bus_model.specs.Events.{Event}
use Rattle.bus_model.specs.Configuration.{present_access}
use Rattle.bus_model.specs.Runs.{Complete}
use Rattle.backplane.specs.Machine.{Machine, configuration, configuration_after, opened}
use Rattle.replayer.specs.declared.fault.ReplayFault.{ReplayFault}
use Rattle.replayer.specs.declared.fault.ReplayFault.TheVariants.{Spelling, NotARun, Unfinished}
use Rattle.replayer.specs.Lines.{Line, closed_line, event_of, event_lines}
use Rattle.replayer.specs.Traces.{outcome}
use Rattle.replayer.proofs.Meanings.{event_spelled}
use Rattle.replayer.specs.Replaying.{step, lowest_unfinished, accepted, close}
use Rattle.replayer.specs.Runs.{BeginWithRun, AreCompleteRun, Says, Accepts}
use Rattle.replayer.proofs.Tracing.{after_events, Begin, Traced, line_is, traced, traced_all, after_is, leads_of, may_of}

pub after_opened :
    (setup : Setup) (events : List Event)
    → after_events (opened setup) events ≡ record { setup = setup; journal = events }
after_opened setup events = after_is (opened setup) events

begins :
    (setup : Setup) (lines : List Line) (events : List Event) (rest : List Line)
    → Begin (opened setup) lines events rest → BeginWithRun setup lines events rest
begins setup lines events rest b =
    record { spelled = b.spelled; are = b.are; run = leads_of (opened setup) events b.may }

unspelled :
    (line : Line) → event_of line ≡ None → (event : Event) → InRange event → line ≡ closed_line (text_of_event event)
    → ⊥
unspelled line none event in_range is =
    let some : event_of line ≡ Some event = ap event_of is ∙ event_spelled (text_of_event event) event in_range refl in
    let both : ◌≡◌ {A = Option Event} None (Some event) = sym none ∙ some in cc

accepted_is : (machine m : Machine) (o : Option ℕ) → accepted machine o ≡ Ok m → machine ≡ m
accepted_is machine m None is = cc
accepted_is machine m (Some b) is = absurd cc

accepted_lowest : (machine : Machine) (b : ℕ) (o : Option ℕ) → accepted machine o ≡ Err (Unfinished b) → o ≡ Some b
accepted_lowest machine b None is = absurd cc
accepted_lowest machine b (Some k) is = let same : k ≡ b = cc in ap Some same

-- What an answer says, where an accepted machine is finished.
pub says :
    (setup : Setup) (lines : List Line) (answer : Result Machine ReplayFault)
    → IfOk answer (λ m. Complete m.setup (configuration m)) → Traced (opened setup) 1 lines answer
    → Says setup lines answer
says setup lines (Ok m) complete t =
    let is : after_events (opened setup) t.events ≡ m =
    accepted_is (after_events (opened setup) t.events) m (lowest_unfinished (after_events (opened setup) t.events))
    t.closes in
    let whole : record { setup = setup; journal = t.events } ≡ m = sym (after_opened setup t.events) ∙ is in
    let P : Machine → Type 0 = λ x. (x.setup ≡ setup) × AreCompleteRun setup lines x.journal in
    let done : Complete setup (configuration_after setup t.events) =
    subst (λ (x : Machine). Complete x.setup (configuration x)) (sym whole) complete in
    subst P whole (refl, record { run = begins setup lines t.events [] t.begin; complete = done })
says setup lines (Err (Spelling k)) complete t = (
  t.events,
  t.line,
  t.rest,
  record {
    run = begins setup lines t.events (t.line ∷ t.rest) t.begin;
    counted = let c = t.count in omega arith;
    unspelled = unspelled t.line t.none;
  },
)
says setup lines (Err (NotARun k)) complete t =
    let s = line_is t.line t.event t.some in
    let from : BeginWithRun setup lines t.events (t.line ∷ t.rest) =
    begins setup lines t.events (t.line ∷ t.rest) t.begin in (
      t.events,
      t.event,
      t.rest,
      record {
        run = subst (λ (l : Line). BeginWithRun setup lines t.events (l ∷ t.rest)) s.1 from;
        counted = let c = t.count in omega arith;
        spelled = s.0;
        no_step =
            λ can.
            t.not (subst (λ (m : Machine). Rattle.backplane.specs.Machine.MayHappen m t.event)
            (sym (after_opened setup t.events)) can);
      },
    )
says setup lines (Err (Unfinished b)) complete t =
    let lowest = accepted_lowest (after_events (opened setup) t.events) b
    (lowest_unfinished (after_events (opened setup) t.events)) t.closes in (
      t.events,
      record {
        run = begins setup lines t.events [] t.begin;
        lowest = subst (λ (m : Machine). lowest_unfinished m ≡ Some b) (after_opened setup t.events) lowest;
      },
    )

none_present :
    (setup : Setup) (machine : Machine) (boards : List ℕ) → Complete setup (configuration machine)
    → machine.setup ≡ setup
    → find (λ board. is_some (present_access setup (configuration machine).boards board)) boards ≡ None
none_present setup machine [] complete same = refl
none_present setup machine (board ∷ boards) complete same =
    rw (complete.scripts board) (none_present setup machine boards complete same)

-- A complete run is accepted.
pub accepts :
    (setup : Setup) (lines : List Line) (number : ℕ)
    → Accepts setup lines (outcome step close (opened setup) number lines)
accepts setup lines number = λ events is.
    let machine : Machine = record { setup = setup; journal = events } in
    let may = may_of (opened setup) events (configuration_after setup events) is.run.run in
    let lines_are : lines ≡ event_lines events = is.run.are ∙ append-nil (event_lines events) in
    ap (outcome step close (opened setup) number) lines_are
    ∙ (traced_all (opened setup) number events is.run.spelled may
    ∙ (ap close (after_opened setup events)
    ∙ ap (accepted machine) (none_present setup machine (board_places setup) is.complete refl)))

-- What the outcome of a trace says.
pub says_of :
    (setup : Setup) (lines : List Line) (answer : Result Machine ReplayFault)
    → answer ≡ outcome step close (opened setup) 1 lines
    → IfOk answer (λ m. Complete m.setup (configuration m)) → Says setup lines answer
says_of setup lines answer is complete =
    says setup lines answer complete (subst (Traced (opened setup) 1 lines) (sym is) (traced (opened setup) 1 lines))
