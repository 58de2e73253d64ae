-- What the lines of a trace come to, in terms of the events that they spell.
use Rattle.std.proofs.Common.{◌≡◌, ℕ, ◌+◌, ◌⊎◌, inl, inr, Bool, true, false, List, [], ◌∷◌, ◌++◌, Option, Some, None, length, refl, sym, ap, ◌∙◌, arith, append_assoc, append-nil, subst}
use Rattle.std.specs.Prelude.{Result, Ok, Err, if◌then◌else◌}
use Rattle.std.specs.List.{AllByRecursion}
use Rattle.trace_text.specs.Ranges.{InRange}
use Rattle.trace_text.specs.Spelling.{text_of_event}
use Rattle.bus_model.specs.Events.{Event}
use Rattle.bus_model.specs.Configuration.{Configuration, opening}
use Rattle.bus_model.specs.Steps.{after}
use Rattle.bus_model.specs.Runs.{Leads, after_all}
use Rattle.backplane.specs.Machine.{Machine, configuration, happened, MayHappen}
use Rattle.replayer.specs.declared.fault.ReplayFault.{ReplayFault}
use Rattle.replayer.specs.declared.fault.ReplayFault.TheVariants.{Spelling, NotARun, Unfinished}
use Rattle.replayer.specs.Lines.{Line, closed_line, event_in, event_of, event_lines}
use Rattle.replayer.specs.Traces.{by_step, by_event, outcome}
use Rattle.replayer.proofs.Meanings.{event_spelled, spelled_is}
use Rattle.coherence.proofs.Decided.{decided}
use Rattle.replayer.specs.Replaying.{step, lowest_unfinished, accepted, close}
use Rattle.replayer.proofs.Stepping.{step_may, step_not}

-- The machine after these events.
abbrev pub after_events : Machine → List Event → Machine
after_events machine [] = machine
after_events machine (event ∷ events) = after_events (happened machine event) events

-- These events may happen, one after another.
abbrev pub MayAll : Machine → List Event → Type 0
MayAll machine [] = Unit {0}
MayAll machine (event ∷ events) = MayHappen machine event × MayAll (happened machine event) events

-- These lines are those of events that may happen, and then the rest.
pub record Begin (machine : Machine) (lines : List Line) (events : List Event) (rest : List Line) : Type 0 where
  pub spelled : AllByRecursion InRange events
  pub are : lines ≡ event_lines events ++ rest
  pub may : MayAll machine events

pub record Misspelled (machine : Machine) (number : ℕ) (lines : List Line) (k : ℕ) : Type 0 where
  pub events : List Event
  pub line : Line
  pub rest : List Line
  pub begin : Begin machine lines events (line ∷ rest)
  pub count : k ≡ number + length events
  pub none : event_of line ≡ None

pub record NoStep (machine : Machine) (number : ℕ) (lines : List Line) (k : ℕ) : Type 0 where
  pub events : List Event
  pub line : Line
  pub rest : List Line
  pub begin : Begin machine lines events (line ∷ rest)
  pub count : k ≡ number + length events
  pub event : Event
  pub some : event_of line ≡ Some event
  pub not : MayHappen (after_events machine events) event → ⊥

pub record Closed (machine : Machine) (lines : List Line) (answer : Result Machine ReplayFault) : Type 0 where
  pub events : List Event
  pub begin : Begin machine lines events []
  pub closes : close (after_events machine events) ≡ answer

-- What lines come to.
abbrev pub Traced : Machine → ℕ → List Line → Result Machine ReplayFault → Type 0
Traced machine number lines (Ok m) = Closed machine lines (Ok m)
Traced machine number lines (Err (Spelling k)) = Misspelled machine number lines k
Traced machine number lines (Err (NotARun k)) = NoStep machine number lines k
Traced machine number lines (Err (Unfinished b)) = Closed machine lines (Err (Unfinished b))

line_spelled :
    (closed : Bool) (bytes : List ℕ) (event : Event) → (if closed then event_in bytes else None) ≡ Some event
    → InRange event × (record { bytes = bytes; closed = closed } ≡ closed_line (text_of_event event))
line_spelled true bytes event is = let s = spelled_is bytes event is in (s.0, ap closed_line s.1)
line_spelled false bytes event is = absurd cc

-- A line that spells an event is its line.
pub line_is :
    (line : Line) (event : Event) → event_of line ≡ Some event
    → InRange event × (line ≡ closed_line (text_of_event event))
line_is line event is = line_spelled line.closed line.bytes event is

begin_more :
    (machine : Machine) (line : Line) (lines : List Line) (event : Event) (events : List Event) (rest : List Line)
    → event_of line ≡ Some event → MayHappen machine event → Begin (happened machine event) lines events rest
    → Begin machine (line ∷ lines) (event ∷ events) rest
begin_more machine line lines event events rest is may b =
    let s = line_is line event is in
    let e = s.1 in
    let l = b.are in
    record { spelled = (s.0, b.spelled); are = λ i. e i ∷ l i; may = (may, b.may) }

traced_more :
    (machine : Machine) (number : ℕ) (line : Line) (lines : List Line) (event : Event)
    (answer : Result Machine ReplayFault)
    → event_of line ≡ Some event → MayHappen machine event → Traced (happened machine event) (number + 1) lines answer
    → Traced machine number (line ∷ lines) answer
traced_more machine number line lines event (Ok m) is may t =
    record {
      events = event ∷ t.events;
      begin = begin_more machine line lines event t.events [] is may t.begin;
      closes = t.closes;
    }
traced_more machine number line lines event (Err (Spelling k)) is may t =
    record {
      events = event ∷ t.events;
      line = t.line;
      rest = t.rest;
      begin = begin_more machine line lines event t.events (t.line ∷ t.rest) is may t.begin;
      count = let c = t.count in omega arith;
      none = t.none;
    }
traced_more machine number line lines event (Err (NotARun k)) is may t =
    record {
      events = event ∷ t.events;
      line = t.line;
      rest = t.rest;
      begin = begin_more machine line lines event t.events (t.line ∷ t.rest) is may t.begin;
      count = let c = t.count in omega arith;
      event = t.event;
      some = t.some;
      not = t.not;
    }
traced_more machine number line lines event (Err (Unfinished b)) is may t =
    record {
      events = event ∷ t.events;
      begin = begin_more machine line lines event t.events [] is may t.begin;
      closes = t.closes;
    }

begin_none : (machine : Machine) (lines : List Line) → Begin machine lines [] lines
begin_none machine lines = record { spelled = tt; are = refl; may = tt }

closed_here :
    (machine : Machine) (number : ℕ) (o : Option ℕ) → lowest_unfinished machine ≡ o
    → Traced machine number [] (accepted machine o)
closed_here machine number None is =
    record { events = []; begin = begin_none machine []; closes = ap (accepted machine) is }
closed_here machine number (Some b) is =
    record { events = []; begin = begin_none machine []; closes = ap (accepted machine) is }

-- Lines come to what their events make of the machine.
pub traced :
    (machine : Machine) (number : ℕ) (lines : List Line)
    → Traced machine number lines (outcome step close machine number lines)
traced machine number [] = closed_here machine number (lowest_unfinished machine) refl
traced machine number (line ∷ lines) = by (λ next. traced next (number + 1) lines) (event_of line) refl
  where
    go : Machine → Result Machine ReplayFault
    go next = outcome step close next (number + 1) lines

    by :
        ((next : Machine) → Traced next (number + 1) lines (go next)) → (o : Option Event) → event_of line ≡ o
        → Traced machine number (line ∷ lines) (by_event step machine Err go number o)
    by more None is =
        record {
          events = [];
          line = line;
          rest = lines;
          begin = begin_none machine (line ∷ lines);
          count = omega arith;
          none = is;
        }
    by more (Some event) is = at (decided machine.setup (configuration machine) event)
      where
        at :
            MayHappen machine event ⊎ (MayHappen machine event → ⊥)
            → Traced machine number (line ∷ lines) (by_step Err go number (step machine event))
        at (inl may) =
            rw (step_may machine event may)
            (traced_more machine number line lines event (go (happened machine event)) is may
            (more (happened machine event)))
        at (inr not) =
            rw (step_not machine event not)
            (record {
              events = [];
              line = line;
              rest = lines;
              begin = begin_none machine (line ∷ lines);
              count = omega arith;
              event = event;
              some = is;
              not = not;
            })

-- The lines of events that may happen come to the end of them.
pub traced_all :
    (machine : Machine) (number : ℕ) (events : List Event) → AllByRecursion InRange events → MayAll machine events
    → outcome step close machine number (event_lines events) ≡ close (after_events machine events)
traced_all machine number [] all may = refl
traced_all machine number (event ∷ events) all may =
    rw (event_spelled (text_of_event event) event all.0 refl, step_may machine event may.0)
    (traced_all (happened machine event) (number + 1) events all.1 may.1)

-- ---- runs

after_more : (c : Configuration) (xs ys : List Event) → after_all c (xs ++ ys) ≡ after_all (after_all c xs) ys
after_more c [] ys = refl
after_more c (x ∷ xs) ys = after_more (after c x) xs ys

next_configuration :
    (machine : Machine) (event : Event) → configuration (happened machine event) ≡ after (configuration machine) event
next_configuration machine event = after_more (opening machine.setup) machine.journal (event ∷ [])

-- The machine after events has them after its journal.
pub after_is :
    (machine : Machine) (events : List Event)
    → after_events machine events ≡ record { setup = machine.setup; journal = machine.journal ++ events }
after_is machine [] =
    ap (λ (j : List Event). record { setup = machine.setup; journal = j }) (sym (append-nil machine.journal))
after_is machine (event ∷ events) =
    after_is (happened machine event) events
    ∙ ap (λ (j : List Event). record { setup = machine.setup; journal = j })
    (append_assoc machine.journal (event ∷ []) events)

pub leads_of :
    (machine : Machine) (events : List Event) → MayAll machine events
    → Leads machine.setup (configuration machine) events (after_all (configuration machine) events)
leads_of machine [] may = refl
leads_of machine (event ∷ events) may = (
  may.0,
  subst (λ (c : Configuration). Leads machine.setup c events (after_all c events))
      (next_configuration machine event) (leads_of (happened machine event) events may.1),
)

pub may_of :
    (machine : Machine) (events : List Event) (last : Configuration)
    → Leads machine.setup (configuration machine) events last → MayAll machine events
may_of machine [] last leads = tt
may_of machine (event ∷ events) last leads = (
  leads.0,
  may_of (happened machine event) events last
      (subst (λ (c : Configuration). Leads machine.setup c events last) (sym (next_configuration machine event))
      leads.1),
)
