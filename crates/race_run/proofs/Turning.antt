-- Turns of a machine as turns of its history.
use Rattle.std.proofs.Common.{◌≡◌, inl, inr, ℕ, Bool, true, false, not, cond, List, [], ◌∷◌, ◌++◌, Option, None, Some, refl, sym, ap, ◌∙◌, subst}
use Rattle.std.specs.Prelude.{◌&&◌, ◌==◌}
use Rattle.std.proofs.lemmas.Bool.{eqb-true}
use Rattle.bus_signals.specs.declared.Access.{Access}
use Rattle.bus_signals.specs.declared.BusEvent.{BusEvent}
use Rattle.moesi_state.specs.declared.State.{State}
use Rattle.moesi_state.specs.declared.Outcome.{Outcome}
use Rattle.moesi_state.specs.Outcomes.{settled}
use Rattle.bus_model.specs.Setup.{Setup, WellFormed, AllInClass}
use Rattle.bus_model.specs.Events.{Event, Local, Drop, Transaction}
use Rattle.bus_model.specs.Configuration.{Configuration, Phase, Idle, Granted, Connected, opening, present_access, is_held, is_granted, is_raised, state_at, words_at}
use Rattle.bus_model.specs.Board.{access_line, is_clean}
use Rattle.bus_model.specs.Carrying.{reply_of}
use Rattle.bus_model.specs.Steps.{Can, after, is_quiet}
use Rattle.bus_model.specs.Runs.{Leads, Run, after_all}
use Rattle.bus_model.specs.Soundness.{Sound}
use Rattle.bus_model.specs.Turns.{Turn, Did, Waits, Finished, LineHeld, turn, victim_for, decide, own_transaction, bus_holder}
use Rattle.bus_model.proofs.TurnInParts.{in_parts}
use Rattle.bus_model.specs.TurnParts.{turn_for, access_turn, action_turn, transaction_turn, room_turn, bus_turn, request_turn, local_turn}
use Rattle.coherence.proofs.Steps.{every_run_is_sound}
use Rattle.coherence.proofs.Turns.{turns_are_steps}
use Rattle.backplane.specs.declared.moved.Moved.{Moved}
use Rattle.backplane.specs.Machine.{Machine, configuration, configuration_after}
use Rattle.backplane.specs.Moves.{told, moved, turn_of}
use Rattle.ruled_turn.specs.Entries.{Grows, Turns}
use Rattle.race_run.specs.Histories.{maker, made, events_of, reached, AreSteps, IsHistory, history_after, IsTurn, IsAtEnd}

-- ---- a turn is of its board

-- What a turn for an access does: an event that its board made, or it waits.
abbrev IsOwn : ℕ → Turn → Type 0
IsOwn board (Did event) = maker event ≡ board
IsOwn board (Waits why) = Unit {0}
IsOwn board Finished = ⊥

module _ (setup : Setup) (c : Configuration) (board : ℕ) where
  own_request : (raised : Bool) (phase : Phase) → IsOwn board (request_turn setup c board raised phase)
  own_request false phase = refl
  own_request true Idle = refl
  own_request true (Granted b) = tt
  own_request true (Connected t) = tt

  own_bus :
      (line : ℕ) (event : BusEvent) (outcome : Outcome) (granted : Bool)
      → IsOwn board (bus_turn setup c board line event outcome granted)
  own_bus line event outcome true = refl
  own_bus line event outcome false = own_request (is_raised c.boards board) c.phase

  own_room : (line : ℕ) (state : State) (clean : Bool) → IsOwn board (room_turn setup c board line state clean)
  own_room line state true = go (is_held c.phase board line)
    where
      go :
          (held : Bool)
          → IsOwn board (cond held (Waits (LineHeld (bus_holder c.phase) line)) (Did (Drop board line state)))
      go true = tt
      go false = refl
  own_room line state false = own_bus line _ _ (is_granted c.phase board)

  own_transaction_turn :
      (access : Access) (event : BusEvent) (outcome : Outcome) (victim : Option (ℕ × State))
      → IsOwn board (transaction_turn setup c board access event outcome victim)
  own_transaction_turn access event outcome None = own_bus (access_line access) event outcome (is_granted c.phase board)
  own_transaction_turn access event outcome (Some v) = own_room v.0 v.1 (is_clean v.1)

  own_local : (access : Access) (state : State) → IsOwn board (local_turn setup c board access state)
  own_local access state = go (is_held c.phase board line && not (is_quiet access before state))
    where
      line : ℕ
      line = access_line access

      before : State
      before = state_at c.rows board line

      go :
          (waits : Bool)
          → IsOwn board (cond waits (Waits (LineHeld (bus_holder c.phase) line))
          (Did (Local board before state
          (record { access = access; reply = reply_of access (words_at c.rows board line) }))))
      go true = tt
      go false = refl

  own_action :
      (access : Access) (outcome : Outcome) (bus : Option BusEvent)
      → IsOwn board (action_turn setup c board access outcome bus)
  own_action access outcome None = own_local access (settled outcome false)
  own_action access outcome (Some event) =
      own_transaction_turn access event outcome (victim_for setup c board access outcome)

  -- The transaction of a board has the board as its master.
  own_master : (phase : Phase) (t : Transaction) → own_transaction phase board ≡ Some t → t.master ≡ board
  own_master Idle t e = cc
  own_master (Granted b) t e = cc
  own_master (Connected u) t e = go (u.master == board) refl e
    where
      go : (same : Bool) → (u.master == board) ≡ same → cond same (Some u) None ≡ Some t → t.master ≡ board
      go true is e = let u_is : u ≡ t = cc in ap (λ (x : Transaction). x.master) (sym u_is) ∙ eqb-true u.master board is
      go false is e = cc

  own_access :
      (access : Access) (own : Option Transaction) → own_transaction c.phase board ≡ own
      → IsOwn board (access_turn setup c board access own)
  own_access access (Some t) e = own_master c.phase t e
  own_access access None e = let action = decide setup c board access in own_action access action.result action.bus

  -- A turn is reported as finished exactly where there is nothing to do.
  pub at_end : Moved.Finished ≡ told (turn setup c board) → present_access setup c.boards board ≡ None
  at_end end = go (present_access setup c.boards board) (end ∙ ap told (in_parts setup c board))
    where
      never : (t : Turn) → IsOwn board t → Moved.Finished ≡ told t → ⊥
      never (Did event) own e = cc
      never (Waits why) own e = cc
      never Finished own e = own

      go : (o : Option Access) → Moved.Finished ≡ told (turn_for setup c board o) → o ≡ None
      go None e = refl
      go (Some access) e =
          absurd (never (access_turn setup c board access (own_transaction c.phase board))
          (own_access access (own_transaction c.phase board) refl) e)

  -- The event of a turn is made by the board.
  pub is_maker : (event : Event) → turn setup c board ≡ Did event → maker event ≡ board
  is_maker event did = go (present_access setup c.boards board) (sym (in_parts setup c board) ∙ did)
    where
      own : (t : Turn) → IsOwn board t → t ≡ Did event → maker event ≡ board
      own t is e = subst (IsOwn board) e is

      go : (o : Option Access) → turn_for setup c board o ≡ Did event → maker event ≡ board
      go None e = cc
      go (Some access) e =
          own (access_turn setup c board access (own_transaction c.phase board))
          (own_access access (own_transaction c.phase board) refl) e

-- ---- histories

-- The events of a history that was made of events.
pub events-made : (events : List Event) → events_of (made events) ≡ events
events-made [] = refl
events-made (event ∷ events) = ap (λ (es : List Event). event ∷ es) (events-made events)

-- One more event is one more entry.
pub made-more :
    (events : List Event) (event : Event) → made (events ++ event ∷ []) ≡ made events ++ (maker event, event) ∷ []
made-more [] event = refl
made-more (e ∷ events) event = ap (λ (es : List (ℕ × Event)). (maker e, e) ∷ es) (made-more events event)

-- The events of two histories in a row.
pub events-more : (history more : List (ℕ × Event)) → events_of (history ++ more) ≡ events_of history ++ events_of more
events-more [] more = refl
events-more (e ∷ history) more = ap (λ (es : List Event). e.1 ∷ es) (events-more history more)

-- The configuration after one more event.
last_event :
    (c : Configuration) (events : List Event) (event : Event)
    → after_all c (events ++ event ∷ []) ≡ after (after_all c events) event
last_event c [] event = refl
last_event c (e ∷ events) event = last_event (after c e) events event

-- ---- steps of a run

-- The first events of a run are a run.
front :
    (setup : Setup) (c : Configuration) (earlier later : List Event) (last : Configuration)
    → Leads setup c (earlier ++ later) last → Leads setup c earlier (after_all c earlier)
front setup c [] later last run = refl
front setup c (e ∷ earlier) later last run = (run.0, front setup (after c e) earlier later last run.1)

-- An event of a run may happen after those before it.
may_follow :
    (setup : Setup) (c : Configuration) (earlier later : List Event) (event : Event) (last : Configuration)
    → Leads setup c (earlier ++ event ∷ later) last → Can setup (after_all c earlier) event
may_follow setup c [] later event last run = run.0
may_follow setup c (e ∷ earlier) later event last run = may_follow setup (after c e) earlier later event last run.1

-- Each event of a run is a step after those before it.
pub are_steps :
    (setup : Setup) (events : List Event) → WellFormed setup → AllInClass setup
    → Run setup events (configuration_after setup events) → AreSteps setup events
are_steps setup events well accepted run = record {
  each = λ earlier later event is.
      let last : Configuration = configuration_after setup events in
      let whole : Leads setup (opening setup) (earlier ++ event ∷ later) last =
      subst (λ (es : List Event). Leads setup (opening setup) es last) is run in
      record {
        step =
            record {
              can = may_follow setup (opening setup) earlier later event last whole;
              moves = last_event (opening setup) earlier event;
            };
        sound =
            every_run_is_sound setup earlier (configuration_after setup earlier) well accepted
            (front setup (opening setup) earlier (event ∷ later) last whole);
      };
}

-- The history of a run is one of the setup.
is_history :
    (setup : Setup) (events : List Event) → WellFormed setup → AllInClass setup
    → Run setup events (configuration_after setup events) → IsHistory setup (made events)
is_history setup events well accepted run = record {
  boards = ap made (sym (events-made events));
  steps = subst (AreSteps setup) (sym (events-made events)) (are_steps setup events well accepted run);
}

-- ---- a turn of the machine

module _ (m : Machine) (who : ℕ) where
  next_history : (t : Turn) → turn_of m who ≡ t → made (moved m t).journal ≡ history_after (made m.journal) who t
  next_history (Did event) e =
      made-more m.journal event
      ∙ ap (λ (n : ℕ). made m.journal ++ (n, event) ∷ []) (is_maker m.setup (configuration m) who event e)
  next_history (Waits why) e = refl
  next_history Finished e = refl

  grown : (t : Turn) → turn_of m who ≡ t → Grows who (made m.journal) (made (moved m t).journal)
  grown (Did event) e = inr (event, next_history (Did event) e)
  grown (Waits why) e = inl refl
  grown Finished e = inl refl

  -- A turn adds one entry of its board to the history, or none.
  pub grows : (next : Machine) → next ≡ moved m (turn_of m who) → Grows who (made m.journal) (made next.journal)
  grows next is =
      subst (λ (n : Machine). Grows who (made m.journal) (made n.journal)) (sym is) (grown (turn_of m who) refl)

  -- A turn keeps the setup.
  pub keeps_setup : (next : Machine) → next ≡ moved m (turn_of m who) → next.setup ≡ m.setup
  keeps_setup next is = ap (λ (n : Machine). n.setup) is ∙ go (turn_of m who)
    where
      go : (t : Turn) → (moved m t).setup ≡ m.setup
      go (Did event) = refl
      go (Waits why) = refl
      go Finished = refl

  -- A turn of the machine is a turn of its history.
  pub is_turn :
      (next : Machine) (answer : Moved) → WellFormed m.setup → AllInClass m.setup
      → Sound m.setup m.journal (configuration m)
      → Run next.setup next.journal (configuration next) → answer ≡ told (turn_of m who)
      → next ≡ moved m (turn_of m who) → IsTurn m.setup (made m.journal) who answer (made next.journal)
  is_turn next answer well accepted sound run answer_is next_is =
      let same = events-made m.journal in
      let at : List Event → Configuration = configuration_after m.setup in
      record {
        told = answer_is ∙ ap (λ (es : List Event). told (turn m.setup (at es) who)) (sym same);
        history =
            ap (λ (n : Machine). made n.journal) next_is
            ∙ next_history (turn_of m who) refl
            ∙ ap (λ (es : List Event). history_after (made m.journal) who (turn m.setup (at es) who)) (sym same);
        step = λ event did.
            let does : turn_of m who ≡ Did event =
            ap (λ (es : List Event). turn m.setup (at es) who) (sym same) ∙ did in
            record {
              can =
                  subst (λ (es : List Event). Can m.setup (at es) event) (sym same)
                  (turns_are_steps m.setup m.journal (configuration m) who event well accepted sound does);
              moves =
                  ap at (events-made next.journal ∙ ap (λ (n : Machine). n.journal) (next_is ∙ ap (moved m) does))
                  ∙ last_event (opening m.setup) m.journal event
                  ∙ ap (λ (es : List Event). after (at es) event) (sym same);
            };
        sound = subst (λ (es : List Event). Sound m.setup es (at es)) (sym same) sound;
        past =
            is_history m.setup next.journal well accepted
            (subst (λ (s : Setup). Run s next.journal (configuration_after s next.journal)) (keeps_setup next next_is)
            run);
      }

-- ---- a turn of a seat

-- After a turn that answers that it is finished, the board's script is at its end.
finished :
    (setup : Setup) (before after : List (ℕ × Event)) (who : ℕ) → IsTurn setup before who Moved.Finished after
    → IsAtEnd setup after who
finished setup before after who is =
    let none = at_end setup (reached setup before) who is.told in
    let same : after ≡ before =
    is.history ∙ ap (λ t. history_after before who t) (in_parts setup (reached setup before) who)
    ∙ ap (λ o. history_after before who (turn_for setup (reached setup before) who o)) none in
    subst (λ (h : List (ℕ × Event)). IsAtEnd setup h who) (sym same) none

-- The same for what the seat has seen.
pub ended :
    (setup : Setup) (who : ℕ) (answer : Moved) (seen mine later_seen later_mine : List (ℕ × Event))
    → answer ≡ Moved.Finished
    → Turns who (λ before after. IsTurn setup before who answer after) seen mine later_seen later_mine
    → IsAtEnd setup later_seen who
ended setup who answer seen mine later_seen later_mine e (inl t) =
    finished setup t.0 later_seen who (subst (λ (a : Moved). IsTurn setup t.0 who a later_seen) e t.5)
ended setup who answer seen mine later_seen later_mine e (inr t) =
    finished setup later_seen later_seen who (subst (λ (a : Moved). IsTurn setup later_seen who a later_seen) e t.2)

-- What the seat has seen is a history of the setup.
pub history_seen : (setup : Setup) (who : ℕ) (answer : Moved) (seen mine later_seen later_mine : List (ℕ × Event))
    → Turns who (λ before after. IsTurn setup before who answer after) seen mine later_seen later_mine
    → IsHistory setup later_seen
history_seen setup who answer seen mine later_seen later_mine (inl t) = t.5.past
history_seen setup who answer seen mine later_seen later_mine (inr t) = t.2.past
