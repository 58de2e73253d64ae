-- Whether an event may happen can be tested.
use Rattle.std.proofs.Common.{◌≡◌, ℕ, inl, inr, List, [], ◌∷◌, Option, Some, None, refl, ap, subst}
use Rattle.std.specs.Prelude.{IsSome}
use Rattle.bus_signals.specs.declared.Access.{Access}
use Rattle.bus_signals.specs.declared.BusEvent.{BusEvent}
use Rattle.bus_signals.specs.declared.BusEvent.TheVariants.{Flu}
use Rattle.moesi_state.specs.declared.State.{State}
use Rattle.moesi_state.specs.declared.State.TheVariants.{I}
use Rattle.moesi_state.specs.declared.Outcome.{Outcome}
use Rattle.moesi_state.specs.declared.Outcome.TheVariants.{Fixed, OnHit}
use Rattle.moesi_state.specs.States.{owns}
use Rattle.moesi_state.specs.Outcomes.{is_invalid}
use Rattle.class_relation.specs.Actions.{has_local, has_answer, silently}
use Rattle.class_relation.specs.Tables.{answers_of}
use Rattle.bus_model.specs.Setup.{Setup, number_of, table_of}
use Rattle.bus_model.specs.Events.{Local, Drop, Raise, Grant, Connect, DataPhase, Done, Transaction, Carried, Answer}
use Rattle.bus_model.specs.Configuration.{Row, Configuration, Phase, Idle, Granted, Connected, state_at, words_at, present_access, is_raised, is_granted, is_connected, is_held}
use Rattle.bus_model.specs.Board.{access_line, cell_of, needs_bus, wants_row, is_full, victim, is_clean}
use Rattle.bus_model.specs.Settling.{highest, settled_lines, settled_rounds}
use Rattle.bus_model.specs.Arbitration.{competing_numbers, does_compete}
use Rattle.bus_model.specs.Connecting.{other_holders, AnswersFit}
use Rattle.bus_model.specs.Carrying.{source_of, takers_of, states_of, source_words, reply_of, done_of}
use Rattle.bus_model.specs.Steps.{is_quiet, CanLocal, CanDrop, CanRaise, CanGrant, ForAccess, ForVictim, CanConnect, CanData}
use Rattle.bus_model.specs.Laws.{EventsAreDecided}
use Rattle.coherence.proofs.Choices.{Known, known_as, known_both, known_either, known_if, known_true, known_false}
use Rattle.coherence.proofs.Same.{same_number, states_same, bus_events_same, same_option, same_list, same_pair, same_access, same_done, same_source, same_takers}

local_decided :
    (setup : Setup) (c : Configuration) (board : ℕ) (before after : State) (done : Done)
    → Known (CanLocal setup c board before after done)
local_decided setup c board before after done =
    known_as
    (λ h.
    record {
      present = h.0;
      not_connected = h.1.0;
      state = h.1.1.0;
      alternative = h.1.1.1.0;
      held = h.1.1.1.1.0;
      reply = h.1.1.1.1.1;
    })
    (λ can. (can.present, (can.not_connected, (can.state, (can.alternative, (can.held, can.reply))))))
    (known_both (same_option same_access (present_access setup c.boards board) (Some done.access))
    (known_both (known_false (is_connected c.phase board))
    (known_both (states_same (state_at c.rows board (access_line done.access)) before)
    (known_both (known_true (has_local (cell_of setup c.rows board done.access) (silently after)))
    (known_both
    (known_if (known_true (is_held c.phase board (access_line done.access)))
    (known_true (is_quiet done.access before after)))
    (same_option same_number done.reply (reply_of done.access (words_at c.rows board (access_line done.access)))))))))

-- What a board may do with its present access, where it has one.
with_access : (setup : Setup) (c : Configuration) (board : ℕ) (P : Access → Type 0)
    → ((access : Access) → P access → present_access setup c.boards board ≡ Some access)
    → ((access : Access) → present_access setup c.boards board ≡ Some access → Known (P access))
    → Known ((access : Access) × P access)
with_access setup c board P present known = go (present_access setup c.boards board) refl
  where
    go : (o : Option Access) → present_access setup c.boards board ≡ o → Known ((access : Access) × P access)
    go None is = inr (λ h. let p = present h.0 h.1 in cc)
    go (Some access) is =
        known_as (λ h. (access, h)) (λ h. let p = present h.0 h.1 in let same : h.0 ≡ access = cc in subst P same h.1)
        (known access is)

drop_decided :
    (setup : Setup) (c : Configuration) (board line : ℕ) (before : State)
    → Known ((access : Access) × CanDrop setup c board line before access)
drop_decided setup c board line before =
    with_access setup c board (CanDrop setup c board line before) (λ access can. can.present) (λ access is.
    known_as
    (λ h.
    record {
      present = is;
      not_connected = h.0;
      wants = h.1.0;
      victim = h.1.1.0;
      clean = h.1.1.1.0;
      not_held = h.1.1.1.1;
    })
    (λ can. (can.not_connected, (can.wants, (can.victim, (can.clean, can.not_held)))))
    (known_both (known_false (is_connected c.phase board))
    (known_both (known_true (wants_row setup c.rows board access))
    (known_both (same_option (same_pair same_number states_same) (victim setup c.rows board (access_line access))
    (Some (line, before)))
    (known_both (known_true (is_clean before)) (known_false (is_held c.phase board line)))))))

raise_decided :
    (setup : Setup) (c : Configuration) (board : ℕ) → Known ((access : Access) × CanRaise setup c board access)
raise_decided setup c board =
    with_access setup c board (CanRaise setup c board) (λ access can. can.present) (λ access is.
    known_as
    (λ h. record { present = is; not_raised = h.0; not_granted = h.1.0; not_connected = h.1.1.0; needs = h.1.1.1 })
    (λ can. (can.not_raised, (can.not_granted, (can.not_connected, can.needs))))
    (known_both (known_false (is_raised c.boards board))
    (known_both (known_false (is_granted c.phase board))
    (known_both (known_false (is_connected c.phase board)) (known_true (needs_bus setup c.rows board access))))))

idle_decided : (phase : Phase) → Known (phase ≡ Idle)
idle_decided Idle = inl refl
idle_decided (Granted board) = inr (λ h. cc)
idle_decided (Connected t) = inr (λ h. cc)

granted_decided : (phase : Phase) (board : ℕ) → Known (phase ≡ Granted board)
granted_decided Idle board = inr (λ h. cc)
granted_decided (Granted b) board = known_as (λ h. ap Granted h) (λ h. cc) (same_number b board)
granted_decided (Connected t) board = inr (λ h. cc)

grant_decided :
    (setup : Setup) (c : Configuration) (by winner lines rounds : ℕ) → Known (CanGrant setup c by winner lines rounds)
grant_decided setup c by winner lines rounds =
    let numbers : List ℕ = competing_numbers setup c.arbitration c.boards in
    known_as
    (λ h.
    record {
      idle = h.0;
      by_raised = h.1.0;
      wins = record {
        competes = h.1.1.0;
        number_highest = h.1.1.1.0;
        lines_settled = h.1.1.1.1.0;
        rounds_settled = h.1.1.1.1.1;
      };
    })
    (λ can. (
      can.idle,
      (
        can.by_raised,
        (can.wins.competes, (can.wins.number_highest, (can.wins.lines_settled, can.wins.rounds_settled))),
      ),
    ))
    (known_both (idle_decided c.phase)
    (known_both (known_true (is_raised c.boards by))
    (known_both (known_true (does_compete c.arbitration c.boards winner))
    (known_both (same_number (number_of setup winner) (highest numbers))
    (known_both (same_number lines (settled_lines numbers)) (same_number rounds (settled_rounds numbers)))))))

fixed_invalid : (outcome : Outcome) → Known (outcome ≡ Fixed I)
fixed_invalid (Fixed s) = known_as (λ h. ap Fixed h) (λ h. cc) (states_same s I)
fixed_invalid (OnHit hit miss) = inr (λ h. cc)

for_access_decided :
    (setup : Setup) (rows : List Row) (t : Transaction) (access : Access) → Known (ForAccess setup rows t access)
for_access_decided setup rows t access =
    known_as
    (λ h. record { line = h.0; alternative = h.1.0; room = h.1.1 })
    (λ is. (is.line, (is.alternative, is.room)))
    (known_both (same_number t.line (access_line access))
    (known_both (known_true
    (has_local (cell_of setup rows t.master access) (record { result = t.outcome; bus = Some t.event })))
    (known_if (known_true (is_full setup rows t.master t.line)) (known_true (is_invalid t.outcome)))))

for_victim_decided :
    (setup : Setup) (rows : List Row) (t : Transaction) (access : Access) → Known (ForVictim setup rows t access)
for_victim_decided setup rows t access =
    known_as
    (λ h. record { wants = h.0; victim = h.1.0; owned = h.1.1.0; event = h.1.1.1.0; outcome = h.1.1.1.1 })
    (λ is. (is.wants, (is.victim, (is.owned, (is.event, is.outcome)))))
    (known_both (known_true (wants_row setup rows t.master access))
    (known_both (same_option (same_pair same_number states_same) (victim setup rows t.master (access_line access))
    (Some (t.line, state_at rows t.master t.line)))
    (known_both (known_true (owns (state_at rows t.master t.line)))
    (known_both (bus_events_same t.event Flu) (fixed_invalid t.outcome)))))

answers_decided :
    (setup : Setup) (rows : List Row) (line : ℕ) (event : BusEvent) (boards : List ℕ) (answers : List Answer)
    → Known (AnswersFit setup rows line event boards answers)
answers_decided setup rows line event [] [] = inl tt
answers_decided setup rows line event [] (a ∷ answers) = inr (λ h. h)
answers_decided setup rows line event (board ∷ boards) [] = inr (λ h. h)
answers_decided setup rows line event (board ∷ boards) (a ∷ answers) =
    known_as
    (λ h. (h.0, h.1.0, h.1.1))
    (λ h. (h.0, (h.1, h.2)))
    (known_both (same_number a.board board)
    (known_both (known_true (has_answer (answers_of (table_of setup board) (state_at rows board line) event) a.action))
    (answers_decided setup rows line event boards answers)))

connect_decided :
    (setup : Setup) (c : Configuration) (t : Transaction) → Known ((access : Access) × CanConnect setup c t access)
connect_decided setup c t =
    with_access setup c t.master (CanConnect setup c t) (λ access can. can.present) (λ access is.
    known_as
    (λ h. record { present = is; granted = h.0; purpose = h.1.0; answers = h.1.1 })
    (λ can. (can.granted, (can.purpose, can.answers)))
    (known_both (granted_decided c.phase t.master)
    (known_both (known_either (for_access_decided setup c.rows t access) (for_victim_decided setup c.rows t access))
    (answers_decided setup c.rows t.line t.event (other_holders setup c.rows t.master t.line) t.answers))))

some_decided : {A : Type 0} → (o : Option A) → Known (IsSome o)
some_decided None = inr (λ h. cc)
some_decided (Some x) = inl refl

carried_decided :
    (setup : Setup) (c : Configuration) (e : Carried) (t : Transaction) → c.phase ≡ Connected t
    → Known (CanData setup c e t)
carried_decided setup c e t is =
    known_as
    (λ h.
    record {
      present = h.0;
      connected = is;
      master = h.1.0;
      event = h.1.1.0;
      line = h.1.1.1.0;
      source = h.1.1.1.1.0;
      takers = h.1.1.1.1.1.0;
      states = h.1.1.1.1.1.1.0;
      done = h.1.1.1.1.1.1.1;
    })
    (λ can. (can.present, (can.master, (can.event, (can.line, (can.source, (can.takers, (can.states, can.done))))))))
    (known_both (some_decided (present_access setup c.boards e.master))
    (known_both (same_number e.master t.master)
    (known_both (bus_events_same e.event t.event)
    (known_both (same_number e.line t.line)
    (known_both (same_source e.source (source_of t.event t.answers))
    (known_both (same_takers e.takers (takers_of t.event t.answers))
    (known_both (same_list (same_pair same_number states_same) e.states (states_of t))
    (same_option same_done e.done
    (done_of (present_access setup c.boards e.master) e.line (source_words c e.master e.line e.source))))))))))

data_decided : (setup : Setup) (c : Configuration) (e : Carried) → Known ((t : Transaction) × CanData setup c e t)
data_decided setup c e = go c.phase refl
  where
    go : (phase : Phase) → c.phase ≡ phase → Known ((t : Transaction) × CanData setup c e t)
    go Idle is = inr (λ h. let p = h.1.connected in cc)
    go (Granted board) is = inr (λ h. let p = h.1.connected in cc)
    go (Connected t) is =
        known_as (λ h. (t, h))
        (λ h. let p = h.1.connected in let same : h.0 ≡ t = cc in subst (CanData setup c e) same h.1)
        (carried_decided setup c e t is)

-- An event may happen in a configuration, or it may not.
pub decided : EventsAreDecided
decided setup c (Local board before after done) = local_decided setup c board before after done
decided setup c (Drop board line before) = drop_decided setup c board line before
decided setup c (Raise board) = raise_decided setup c board
decided setup c (Grant by winner lines rounds) = grant_decided setup c by winner lines rounds
decided setup c (Connect t) = connect_decided setup c t
decided setup c (DataPhase e) = data_decided setup c e
