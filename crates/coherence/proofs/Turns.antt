-- What a turn does from a sound configuration is a step.
use Rattle.bus_model.specs.Settling.{highest}
use Rattle.bus_model.specs.Arbitration.{competing, competing_numbers, does_compete, winner_of}
use Rattle.bus_model.specs.Board.{access_line, cell_of, is_clean, is_full, needs_bus, victim}
use Rattle.bus_model.specs.Carrying.{carried_of, reply_of}
use Rattle.bus_model.specs.Coherence.{LineCoherent}
use Rattle.bus_model.specs.Configuration.{Arbitration, Configuration, Progress, Connected, Granted, Idle, Phase, Row, is_connected, is_copy, is_granted, is_held, is_of_line, is_raised, memory_line, present_access, progress_of, row_at, rows_of_line, state_at, words_at}
use Rattle.bus_model.specs.Connecting.{AnswersFit, other_holders}
use Rattle.bus_model.specs.Entries.{latest}
use Rattle.bus_model.specs.Events.{Connect, DataPhase, Drop, Event, Local, Raise, Transaction}
use Rattle.bus_model.specs.Laws.{TurnsAreSteps}
use Rattle.bus_model.specs.Places.{places_from}
use Rattle.bus_model.specs.Setup.{AllInClass, Setup, WellFormed, board_places, choose_of, line_count, number_of, table_of}
use Rattle.bus_model.specs.Soundness.{Sound}
use Rattle.bus_model.specs.Steps.{Can, ForVictim, is_quiet}
use Rattle.bus_model.specs.Turns.{Did, LineHeld, Waits, bus_holder, decide, decide_answer, own_transaction, transaction_of, victim_for}
use Rattle.bus_model.proofs.TurnInParts.{in_parts}
use Rattle.bus_model.specs.TurnParts.{access_turn, action_turn, bus_turn, local_turn, request_turn, room_turn, transaction_turn, turn_for}
use Rattle.bus_signals.specs.Accesses.{kind_of}
use Rattle.bus_signals.specs.declared.Access.{Access}
use Rattle.bus_signals.specs.declared.BusEvent.{BusEvent}
use Rattle.bus_signals.specs.declared.BusEvent.TheVariants.{Flu}
use Rattle.bus_signals.specs.declared.LocalEvent.{LocalEvent}
use Rattle.class_relation.specs.Actions.{answer, has_answer, has_local, silently}
use Rattle.class_relation.specs.Permitted.{is_permitted_local}
use Rattle.class_relation.specs.Tables.{answers_of}
use Rattle.class_relation.specs.declared.LocalAction.{LocalAction}
use Rattle.coherence.proofs.Answers.{holder_in_class}
use Rattle.coherence.proofs.Cells.{has_answer-in, has_local-in, in_class_there, permitted_local, pick-in, reached_at}
use Rattle.coherence.proofs.ClassFacts.{is_fixed, is_silent, silent_is_fixed}
use Rattle.coherence.proofs.Competing.{some_is_competing}
use Rattle.coherence.proofs.Lists.{In, all-in, any-in, count-two, filter-in, find-in, in-filter, in-find, length-count}
use Rattle.coherence.proofs.MasterFacts.{comes_to, fit_together, on_event, owner_flushes}
use Rattle.coherence.proofs.Places.{IsPlace}
use Rattle.coherence.proofs.Progress.{board_there, line_within}
use Rattle.coherence.proofs.RowsKept.{row_sound}
use Rattle.coherence.proofs.Seen.{row_state}
use Rattle.coherence.proofs.Victims.{full_has_victim, victim_is, victim_state}
use Rattle.coherence.proofs.Words.{latest_words}
use Rattle.moesi_state.specs.Outcomes.{is_invalid, settled}
use Rattle.moesi_state.specs.States.{holds, is_alone, owns}
use Rattle.moesi_state.specs.declared.Outcome.{Outcome}
use Rattle.moesi_state.specs.declared.Outcome.TheVariants.{Fixed, OnHit}
use Rattle.moesi_state.specs.declared.State.{State}
use Rattle.moesi_state.specs.declared.State.TheVariants.{I}
use Rattle.std.proofs.Common.{Bool, List, None, Option, Some, [], ap, arith, cond, false, inl, inr, length, map, not, refl, subst, sym, true, unwrap_or, ℕ, ◌&&◌, ◌<◌, ◌∙◌, ◌∷◌, ◌≡◌, ◌≤◌, ◌⊎◌}
use Rattle.std.proofs.lemmas.Bool.{and_parts, cases_lt, eq-eqb, eqb-false, eqb-true, not-true}
use Rattle.std.specs.List.{AllByRecursion}
use Rattle.std.specs.Prelude.{IsTrue, is_some, ◌==◌}
use Rattle.table_check.proofs.Accepting.{needed_answer, needed_local}

-- ---- boards that share a line

-- Two boards have a line in states that fit together.
fit_states :
    (a b : State) → (owns a && owns b) ≡ false → is_alone a ≡ false → is_alone b ≡ false → fit_together a b ≡ true
fit_states a b owners alone_a alone_b = rw (owners, alone_a, alone_b) (last (holds a))
  where
    last : (h : Bool) → not (h && false) ≡ true
    last true = refl
    last false = refl

fit_rows :
    (rows : List Row) (memory latest : List ℕ) (x y : Row) → LineCoherent rows memory latest → In x rows → In y rows
    → (x.board ≡ y.board → ⊥) → fit_together x.state y.state ≡ true
fit_rows rows memory latest x y coherent hx hy other =
    fit_states x.state y.state (owners (owns x.state) (owns y.state) refl refl) (alone x hx (is_alone x.state) refl)
    (alone y hy (is_alone y.state) refl)
  where
    two : 2 ≤ length rows
    two =
        rw (length-count rows)
        (count-two (λ row. true) rows x y hx hy (λ e. other (ap (λ (r : Row). r.board) e)) refl refl)

    alone : (z : Row) → In z rows → (b : Bool) → is_alone z.state ≡ b → b ≡ false
    alone z hz true e =
        let one = coherent.alone (any-in (λ (row : Row). is_alone row.state) rows z hz e) in
        absurd (omega (arith, one, two))
    alone z hz false e = refl

    owners : (a b : Bool) → owns x.state ≡ a → owns y.state ≡ b → (a && b) ≡ false
    owners true true e f =
        let both =
        count-two (λ (row : Row). owns row.state) rows x y hx hy (λ q. other (ap (λ (r : Row). r.board) q)) e f in
        absurd (omega (arith, both, coherent.one_owner))
    owners true false e f = refl
    owners false b e f = refl

line_member :
    (rows : List Row) (board line : ℕ) (x : Row) → row_at rows board line ≡ Some x
    → In x (rows_of_line rows line) × (x.board ≡ board)
line_member rows board line x e =
    let found = in-find (is_copy board line) rows x e in
    let p = and_parts (x.board == board) (x.line == line) found.1 in
    (filter-in (is_of_line line) rows x found.0 p.1, eqb-true x.board board p.0)

fit_boards :
    (rows : List Row) (memory latest : List ℕ) (line a b : ℕ) → LineCoherent (rows_of_line rows line) memory latest
    → (a ≡ b → ⊥) → holds (state_at rows b line) ≡ true
    → fit_together (state_at rows a line) (state_at rows b line) ≡ true
fit_boards rows memory latest line a b coherent other held = go (row_at rows a line) refl (row_at rows b line) refl held
  where
    go :
        (o : Option Row) → row_at rows a line ≡ o → (p : Option Row) → row_at rows b line ≡ p
        → holds (row_state p) ≡ true → fit_together (row_state o) (row_state p) ≡ true
    go None e p f h = refl
    go (Some x) e None f h = cc
    go (Some x) e (Some y) f h =
        let mx = line_member rows a line x e in
        let my = line_member rows b line y f in
        fit_rows (rows_of_line rows line) memory latest x y coherent mx.0 my.0
        (λ same. other (sym mx.1 ∙ (same ∙ my.1)))

-- ---- the answers that are picked

-- An answer that a board picks is an alternative of its cell.
abbrev Picked : Setup → Configuration → ℕ → BusEvent → ℕ → Type 0
Picked setup c line event board =
    has_answer (answers_of (table_of setup board) (state_at c.rows board line) event)
    (decide_answer setup c board line event) ≡ true

answers_picked :
    (setup : Setup) (c : Configuration) (line : ℕ) (event : BusEvent) (boards : List ℕ)
    → AllByRecursion (Picked setup c line event) boards
    → AnswersFit setup c.rows line event boards
    (map (λ other. record { board = other; action = decide_answer setup c other line event }) boards)
answers_picked setup c line event [] h = tt
answers_picked setup c line event (b ∷ boards) h = (refl, h.0, answers_picked setup c line event boards h.1)

module _ (setup : Setup) (events : List Event) (c : Configuration) (well : WellFormed setup)
    (accepted : AllInClass setup) (s : Sound setup events c) where
  -- The other holders of a line pick alternatives, for a transaction that is permitted to the master.
  holders_pick :
      (master line : ℕ) (kind : LocalEvent) (outcome : Outcome) (event : BusEvent) → line < line_count setup
      → is_permitted_local (state_at c.rows master line) kind (on_event outcome event) ≡ true
      → AnswersFit setup c.rows line event (other_holders setup c.rows master line)
      (transaction_of setup c master line event outcome).answers
  holders_pick master line kind outcome event low permitted =
      answers_picked setup c line event (other_holders setup c.rows master line)
      (all-in (Picked setup c line event) (other_holders setup c.rows master line) each)
    where
      each : (b : ℕ) → In b (other_holders setup c.rows master line) → Picked setup c line event b
      each b h =
          let member = in-filter (λ board. not (board == master) && holds (state_at c.rows board line))
          (board_places setup) b h in
          let p = and_parts (not (b == master)) (holds (state_at c.rows b line)) member.1 in
          let other = eqb-false b master (not-true (b == master) p.0) in
          let fit = fit_boards c.rows (memory_line c.memory line) (latest_words setup events line) line master b
          (s.coherent line low) (λ e. other (sym e)) p.1 in
          let comes =
          comes_to (state_at c.rows master line) kind outcome event (state_at c.rows b line) permitted fit p.1 in
          let some = needed_answer (table_of setup b) (state_at c.rows b line) event
          (holder_in_class setup c.rows master line well accepted b h)
          (reached_at setup c.rows c.boards b line s.rows.each) p.1 comes in
          has_answer-in (answers_of (table_of setup b) (state_at c.rows b line) event)
          (decide_answer setup c b line event)
          (pick-in (answer I false false false) (choose_of setup b) (progress_of c.boards b).spent
          (answers_of (table_of setup b) (state_at c.rows b line) event) some)

-- ---- small facts

did_same : (a b : Event) → Did a ≡ Did b → a ≡ b
did_same a b e = cc

-- The transaction of a board that is connected.
own_connected :
    (phase : Phase) (board : ℕ) (t : Transaction) → own_transaction phase board ≡ Some t
    → (phase ≡ Connected t) × (t.master ≡ board)
own_connected Idle board t e = cc
own_connected (Granted b) board t e = cc
own_connected (Connected u) board t e = go (u.master == board) refl e
  where
    go :
        (b : Bool) → (u.master == board) ≡ b → cond b (Some u) None ≡ Some t
        → (Connected u ≡ Connected t) × (t.master ≡ board)
    go true k h =
        let same : u ≡ t = cc in
        (ap Connected same, ap (λ (t : Transaction). t.master) (sym same) ∙ eqb-true u.master board k)
    go false k h = cc

own_none : (phase : Phase) (board : ℕ) → own_transaction phase board ≡ None → is_connected phase board ≡ false
own_none Idle board e = refl
own_none (Granted b) board e = refl
own_none (Connected u) board e = go (u.master == board) refl e
  where
    go : (b : Bool) → (u.master == board) ≡ b → cond b (Some u) None ≡ None → (u.master == board) ≡ false
    go true k h = cc
    go false k h = k

granted_phase : (phase : Phase) (board : ℕ) → is_granted phase board ≡ true → phase ≡ Granted board
granted_phase Idle board e = cc
granted_phase (Granted b) board e = ap Granted (eqb-true b board e)
granted_phase (Connected t) board e = cc

fixed_settled : (outcome : Outcome) → is_fixed outcome ≡ true → outcome ≡ Fixed (settled outcome false)
fixed_settled (Fixed state) e = refl
fixed_settled (OnHit h m) e = cc

-- A part of a test that fails, where the other passes.
held_quiet : (held quiet : Bool) → (held && not quiet) ≡ false → held ≡ true → quiet ≡ true
held_quiet true true e h = refl
held_quiet true false e h = cc
held_quiet false quiet e h = cc

pub highest-in : (f : ℕ → ℕ) (xs : List ℕ) (x : ℕ) → In x xs → (y : ℕ) × In y xs × (f y ≡ highest (map f xs))
highest-in f [] x h = absurd h
highest-in f (a ∷ []) x h = (a, inl refl, omega arith)
highest-in f (a ∷ (b ∷ rest)) x h = go (highest-in f (b ∷ rest) b (inl refl))
  where
    go :
        (y : ℕ) × In y (b ∷ rest) × (f y ≡ highest (map f (b ∷ rest)))
        → (y : ℕ) × In y (a ∷ (b ∷ rest)) × (f y ≡ highest (map f (a ∷ (b ∷ rest))))
    go r = pick_one (cases_lt (f a) (f r.0))
      where
        pick_one :
            (f a < f r.0) ⊎ (f r.0 ≤ f a) → (y : ℕ) × In y (a ∷ (b ∷ rest)) × (f y ≡ highest (map f (a ∷ (b ∷ rest))))
        pick_one (inl k) = (r.0, inr r.1, omega (arith, r.2))
        pick_one (inr k) = (a, inl refl, omega (arith, r.2))

-- The winner of the bus competes, and has the highest number.
winner_is :
    (setup : Setup) (a : Arbitration) (boards : List Progress) (board : ℕ) → is_raised boards board ≡ true
    → (does_compete a boards (winner_of setup a boards) ≡ true)
    × (number_of setup (winner_of setup a boards) ≡ highest (competing_numbers setup a boards))
winner_is setup a boards board raised =
    let test = λ (b : ℕ). number_of setup b == highest (competing_numbers setup a boards) in
    let here = some_is_competing a boards board raised in
    let best = highest-in (λ b. number_of setup b) (competing a boards) here.0 here.1 in
    let found = find-in test (competing a boards) best.0 best.1
    (eq-eqb (number_of setup best.0) (highest (competing_numbers setup a boards)) best.2) in
    let member = in-find test (competing a boards) found.0 found.1 in
    let winner : winner_of setup a boards ≡ found.0 = ap (λ o. unwrap_or o 0) found.1 in (
      ap (does_compete a boards) winner ∙ (in-filter (does_compete a boards) (places_from 1 boards) found.0 member.0).1,
      ap (number_of setup) winner
          ∙ eqb-true (number_of setup found.0) (highest (competing_numbers setup a boards)) member.1,
    )

-- ---- the cases of a turn

module _ (setup : Setup) (events : List Event) (c : Configuration) (well : WellFormed setup)
    (accepted : AllInClass setup) (s : Sound setup events c) (board : ℕ) (access : Access)
    (present : present_access setup c.boards board ≡ Some access) where
  there : IsPlace (length setup.boards) board
  there = board_there setup c.boards board access well present

  abbrev cell : List LocalAction
  cell = cell_of setup c.rows board access

  abbrev line : ℕ
  line = access_line access

  abbrev action : LocalAction
  action = decide setup c board access

  chosen : In action cell
  chosen =
      pick-in (silently I) (choose_of setup board) (progress_of c.boards board).spent cell
      (needed_local (table_of setup board) (state_at c.rows board line) (kind_of access)
      (in_class_there setup board well accepted there) (reached_at setup c.rows c.boards board line s.rows.each))

  alternative : has_local cell action ≡ true
  alternative = has_local-in cell action chosen

  permitted : is_permitted_local (state_at c.rows board line) (kind_of access) action ≡ true
  permitted =
      permitted_local setup board (state_at c.rows board line) (kind_of access) action well accepted there alternative

  data_case :
      (t : Transaction) → own_transaction c.phase board ≡ Some t → Can setup c (DataPhase (carried_of setup c t))
  data_case t own =
      let p = own_connected c.phase board t own in (
        t,
        record {
          present = ap (λ b. is_some (present_access setup c.boards b)) p.1 ∙ ap is_some present;
          connected = p.0;
          master = refl;
          event = refl;
          line = refl;
          source = refl;
          takers = refl;
          states = refl;
          done = refl;
        },
      )

  module _ (alone : is_connected c.phase board ≡ false) where
    local_case :
        action.bus ≡ None → (event : Event) → local_turn setup c board access (settled action.result false) ≡ Did event
        → Can setup c event
    local_case none event did =
        go
        (is_held c.phase board line && not (is_quiet access (state_at c.rows board line) (settled action.result false)))
        refl did
      where
        silent : is_silent action ≡ true
        silent = ap (λ b. is_silent (record { result = action.result; bus = b })) none

        fixed : action.result ≡ Fixed (settled action.result false)
        fixed =
            fixed_settled action.result
            (silent_is_fixed (state_at c.rows board line) (kind_of access) action permitted silent)

        same : action ≡ silently (settled action.result false)
        same = λ i. record { result = fixed i; bus = none i }

        go :
            (b : Bool)
            → (is_held c.phase board line
            && not (is_quiet access (state_at c.rows board line) (settled action.result false))) ≡ b
            → cond b (Waits (LineHeld (bus_holder c.phase) line))
            (Did (Local board (state_at c.rows board line) (settled action.result false)
            (record { access = access; reply = reply_of access (words_at c.rows board line) })))
            ≡ Did event → Can setup c event
        go true e h = cc
        go false e h = subst (Can setup c) (did_same _ event h) (record {
          present = present;
          not_connected = alone;
          state = refl;
          alternative = subst (λ a. has_local cell a ≡ true) same alternative;
          held =
              held_quiet (is_held c.phase board line)
              (is_quiet access (state_at c.rows board line) (settled action.result false)) e;
          reply = refl;
        })

    request_case :
        IsTrue (needs_bus setup c.rows board access) → is_granted c.phase board ≡ false → (raised : Bool)
        → is_raised c.boards board ≡ raised → (phase : Phase) → c.phase ≡ phase → (event : Event)
        → request_turn setup c board raised phase ≡ Did event → Can setup c event
    request_case needs not_granted false e phase f event did =
        subst (Can setup c) (did_same (Raise board) event did) (
          access,
          record {
            present = present;
            not_raised = e;
            not_granted = not_granted;
            not_connected = alone;
            needs = needs;
          },
        )
    request_case needs not_granted true e Idle f event did =
        let win = winner_is setup c.arbitration c.boards board e in
        subst (Can setup c) (did_same _ event did) (record {
          idle = f;
          by_raised = e;
          wins = record { competes = win.0; number_highest = win.1; lines_settled = refl; rounds_settled = refl };
        })
    request_case needs not_granted true e (Granted b) f event did = cc
    request_case needs not_granted true e (Connected t) f event did = cc

    module _ (bus : BusEvent) (by_bus : action.bus ≡ Some bus) where
      needs : IsTrue (needs_bus setup c.rows board access)
      needs = any-in (λ (a : LocalAction). is_some a.bus) cell action chosen (ap is_some by_bus)

      same : action ≡ on_event action.result bus
      same = λ i. record { result = action.result; bus = by_bus i }

      bus_permitted :
          is_permitted_local (state_at c.rows board line) (kind_of access) (on_event action.result bus) ≡ true
      bus_permitted =
          subst (λ a. is_permitted_local (state_at c.rows board line) (kind_of access) a ≡ true) same permitted

      -- A turn by a transaction on a line, where the transaction may be connected once the bus is granted.
      bus_case :
          (l : ℕ) (e : BusEvent) (outcome : Outcome)
          → (c.phase ≡ Granted board → Can setup c (Connect (transaction_of setup c board l e outcome)))
          → (event : Event) → bus_turn setup c board l e outcome (is_granted c.phase board) ≡ Did event
          → Can setup c event
      bus_case l e outcome connect event did = go (is_granted c.phase board) refl did
        where
          go :
              (g : Bool) → is_granted c.phase board ≡ g → bus_turn setup c board l e outcome g ≡ Did event
              → Can setup c event
          go true f h =
              subst (Can setup c) (did_same (Connect (transaction_of setup c board l e outcome)) event h)
              (connect (granted_phase c.phase board f))
          go false f h = request_case needs f (is_raised c.boards board) refl c.phase refl event h

      -- The transaction for the access itself.
      connect_access :
          (IsTrue (is_full setup c.rows board line) → IsTrue (is_invalid action.result)) → c.phase ≡ Granted board
          → Can setup c (Connect (transaction_of setup c board line bus action.result))
      connect_access room granted = (
        access,
        record {
          present = present;
          granted = granted;
          purpose =
              inl (record {
                line = refl;
                alternative = subst (λ a. has_local cell a ≡ true) same alternative;
                room = room;
              });
          answers =
              holders_pick setup events c well accepted s board line (kind_of access) action.result bus
              (line_within setup c.boards board access well present) bus_permitted;
        },
      )

      -- The flush of a victim.
      connect_victim :
          (v : ℕ × State) → is_invalid action.result ≡ false → victim setup c.rows board line ≡ Some v
          → is_clean v.1 ≡ false → c.phase ≡ Granted board
          → Can setup c (Connect (transaction_of setup c board v.0 Flu (Fixed I)))
      connect_victim v wanted found dirty granted =
          let state = victim_state setup (length events) c.rows c.boards board line v s.rows found in
          let owned : owns v.1 ≡ true = held_quiet (holds v.1) (owns v.1) dirty state.1 in
          let here : owns (state_at c.rows board v.0) ≡ true = ap owns (sym state.0) ∙ owned in
          let t = transaction_of setup c board v.0 Flu (Fixed I) in
          let r = victim_is setup c.rows board line v found in
          let within : v.0 < line_count setup =
          subst (λ n. n < line_count setup) r.4 (row_sound setup _ c.rows c.boards s.rows r.0 r.3.stands).in_memory
          in
          let purpose : ForVictim setup c.rows t access = record {
            wants = any-in (λ (a : LocalAction). not (is_invalid a.result)) cell action chosen (ap not wanted);
            victim = found ∙ ap (λ state. Some (v.0, state)) state.0;
            owned = here;
            event = refl;
            outcome = refl;
          } in (
            access,
            record {
              present = present;
              granted = granted;
              purpose = inr purpose;
              answers =
                  holders_pick setup events c well accepted s board v.0 LocalEvent.Flush (Fixed I) Flu within
                  (owner_flushes (state_at c.rows board v.0) here);
            },
          )

      room_case :
          (v : ℕ × State) → is_invalid action.result ≡ false → victim setup c.rows board line ≡ Some v → (clean : Bool)
          → is_clean v.1 ≡ clean → (event : Event) → room_turn setup c board v.0 v.1 clean ≡ Did event
          → Can setup c event
      room_case v wanted found true e event did = go (is_held c.phase board v.0) refl did
        where
          go :
              (held : Bool) → is_held c.phase board v.0 ≡ held
              → cond held (Waits (LineHeld (bus_holder c.phase) v.0)) (Did (Drop board v.0 v.1)) ≡ Did event
              → Can setup c event
          go true f h = cc
          go false f h = subst (Can setup c) (did_same (Drop board v.0 v.1) event h) (
            access,
            record {
              present = present;
              not_connected = alone;
              wants = any-in (λ (a : LocalAction). not (is_invalid a.result)) cell action chosen (ap not wanted);
              victim = found;
              clean = e;
              not_held = f;
            },
          )
      room_case v wanted found false e event did =
          bus_case v.0 Flu (Fixed I) (connect_victim v wanted found e) event did

      transaction_case :
          (event : Event)
          → transaction_turn setup c board access bus action.result (victim_for setup c board access action.result)
          ≡ Did event → Can setup c event
      transaction_case event did = go (is_invalid action.result) refl did
        where
          at :
              (wanted : is_invalid action.result ≡ false) (o : Option (ℕ × State)) → victim setup c.rows board line ≡ o
              → transaction_turn setup c board access bus action.result o ≡ Did event → Can setup c event
          at wanted None e h =
              bus_case line bus action.result
              (connect_access (λ full. absurd (full_has_victim setup c.rows board line well there full e))) event h
          at wanted (Some v) e h = room_case v wanted e (is_clean v.1) refl event h

          go :
              (b : Bool) → is_invalid action.result ≡ b
              → transaction_turn setup c board access bus action.result (cond b None (victim setup c.rows board line))
              ≡ Did event → Can setup c event
          go true e h = bus_case line bus action.result (connect_access (λ full. e)) event h
          go false e h = at e (victim setup c.rows board line) refl h

    action_case :
        (o : Option BusEvent) → action.bus ≡ o → (event : Event)
        → action_turn setup c board access action.result o ≡ Did event → Can setup c event
    action_case None e event did = local_case e event did
    action_case (Some bus) e event did = transaction_case bus e event did

  access_case :
      (o : Option Transaction) → own_transaction c.phase board ≡ o → (event : Event)
      → access_turn setup c board access o ≡ Did event → Can setup c event
  access_case None e event did = action_case (own_none c.phase board e) action.bus refl event did
  access_case (Some t) e event did =
      subst (Can setup c) (did_same (DataPhase (carried_of setup c t)) event did) (data_case t e)

-- What a turn does is a step.
pub turns_are_steps : TurnsAreSteps
turns_are_steps setup events c board event well accepted s did =
    go (present_access setup c.boards board) refl (sym (in_parts setup c board) ∙ did)
  where
    go :
        (o : Option Access) → present_access setup c.boards board ≡ o → turn_for setup c board o ≡ Did event
        → Can setup c event
    go None e h = cc
    go (Some access) e h =
        access_case setup events c well accepted s board access e (own_transaction c.phase board) refl event h
