-- The facts of a transaction together mean that it may be connected.
use Rattle.std.proofs.Common.{Bool, List, None, Option, Some, [], ap, false, not, refl, subst, sym, true, ℕ, ◌∙◌, ◌∷◌, ◌≡◌, ◌||◌, ◌==◌, length}
use Rattle.std.proofs.lemmas.Bool.{and_from, and_parts, eq-eqb, eqb-true}
use Rattle.std.proofs.lemmas.Option.{same_Some}
use Rattle.std.specs.Prelude.{IsTrue, is_some, option_map, ◌↔◌}
use Rattle.bus_signals.specs.declared.Access.{Access}
use Rattle.bus_signals.specs.declared.BusEvent.{BusEvent}
use Rattle.bus_signals.specs.declared.BusEvent.TheVariants.{Flu}
use Rattle.moesi_state.specs.declared.State.{State}
use Rattle.moesi_state.specs.declared.State.TheVariants.{I}
use Rattle.moesi_state.specs.declared.Outcome.{Outcome}
use Rattle.moesi_state.specs.declared.Outcome.TheVariants.{Fixed}
use Rattle.class_relation.proofs.Spelling.{same_outcome-eq}
use Rattle.moesi_state.specs.Outcomes.{is_invalid}
use Rattle.moesi_state.specs.States.{owns}
use Rattle.class_relation.specs.Actions.{has_answer, has_local}
use Rattle.class_relation.specs.Tables.{answers_of}
use Rattle.bus_model.specs.Setup.{Setup, WellFormed, table_of}
use Rattle.bus_model.specs.Events.{Answer, Transaction}
use Rattle.bus_model.specs.Configuration.{Configuration, Connected, Granted, Idle, Phase, Row, is_granted, present_access, state_at}
use Rattle.bus_model.specs.Board.{access_line, cell_of, is_full, victim, wants_row}
use Rattle.bus_model.specs.Connecting.{AnswersFit, other_holders}
use Rattle.bus_model.specs.Soundness.{RowsSound}
use Rattle.bus_model.specs.Steps.{CanConnect, ForAccess, ForVictim, Purpose}
use Rattle.coherence.proofs.Places.{IsPlace}
use Rattle.coherence.proofs.Victims.{full_has_victim, victim_is}
use Rattle.backplane.specs.Permits.{do_answers_fit, does_answer_fit}
use Rattle.backplane.proofs.Deciding.{all_of, as_well, itself, none_left, one_more, unless}
use Rattle.backplane.proofs.Telling.{victim_told}

-- A board has a victim exactly where it is full.
pub full_is :
    (setup : Setup) (rows : List Row) (board line : ℕ) → WellFormed setup → IsPlace (length setup.boards) board
    → is_some (option_map {U = ℕ} (λ (v : ℕ × State). v.0) (victim setup rows board line))
    ≡ is_full setup rows board line
full_is setup rows board line well there = go (victim setup rows board line) refl
  where
    none : victim setup rows board line ≡ None → (b : Bool) → is_full setup rows board line ≡ b → false ≡ b
    none e true full = absurd (full_has_victim setup rows board line well there full e)
    none e false full = refl

    go :
        (o : Option (ℕ × State)) → victim setup rows board line ≡ o
        → is_some (option_map {U = ℕ} (λ (v : ℕ × State). v.0) o) ≡ is_full setup rows board line
    go None e = none e (is_full setup rows board line) refl
    go (Some v) e = sym (victim_is setup rows board line v e).3.full

-- An outcome passes the test for the fixed I exactly where it is the fixed I.
pub invalid_is : (outcome : Outcome) → (is_invalid outcome ≡ true) ↔ (outcome ≡ Fixed I)
invalid_is outcome = (same_outcome-eq outcome (Fixed I), λ e. ap is_invalid e)

pub access_told : (setup : Setup) (rows : List Row) (t : Transaction) (access : Access) (line alternative room : Bool)
    → ((line ≡ true) ↔ (t.line ≡ access_line access))
    → alternative
    ≡ has_local (cell_of setup rows t.master access) (record { result = t.outcome; bus = Some t.event })
    → room ≡ (not (is_full setup rows t.master t.line) || is_invalid t.outcome)
    → (all_of (line ∷ alternative ∷ room ∷ []) ≡ true) ↔ ForAccess setup rows t access
access_told setup rows t access line alternative room l a r = (
  λ h. let f = facts.0 h in record { line = f.0; alternative = f.1.0; room = f.1.1.0 },
  λ p. facts.1 (p.line, (p.alternative, (p.room, tt))),
)
  where
    facts :
        (all_of (line ∷ alternative ∷ room ∷ []) ≡ true)
        ↔ ((t.line ≡ access_line access)
        × (IsTrue (has_local (cell_of setup rows t.master access)
        (record { result = t.outcome; bus = Some t.event }))
        × ((IsTrue (is_full setup rows t.master t.line) → IsTrue (is_invalid t.outcome)) × Unit {0})))
    facts =
        one_more line (alternative ∷ room ∷ []) _ _ l
        (one_more alternative (room ∷ []) _ _ (itself alternative _ a)
        (one_more room [] _ _ (unless room _ _ r) none_left))

pub flush_told :
    (setup : Setup) (n : ℕ) (c : Configuration) (t : Transaction) (access : Access)
    (wants gone owned flushes left : Bool) → RowsSound setup n c.rows c.boards
    → wants ≡ wants_row setup c.rows t.master access
    → ((gone ≡ true)
    ↔ (option_map {U = ℕ} (λ (v : ℕ × State). v.0) (victim setup c.rows t.master (access_line access))
    ≡ Some t.line))
    → owned ≡ owns (state_at c.rows t.master t.line) → ((flushes ≡ true) ↔ (t.event ≡ Flu))
    → ((left ≡ true) ↔ (t.outcome ≡ Fixed I))
    → (all_of (wants ∷ gone ∷ owned ∷ flushes ∷ left ∷ []) ≡ true) ↔ ForVictim setup c.rows t access
flush_told setup n c t access wants gone owned flushes left sound w g o f l =
    (λ h. build (facts.0 h), λ p. facts.1 (p.wants, ((told.1 p.victim).0, (p.owned, (p.event, (p.outcome, tt))))))
  where
    told :
        ((option_map {U = ℕ} (λ (v : ℕ × State). v.0) (victim setup c.rows t.master (access_line access)) ≡ Some t.line)
        × (state_at c.rows t.master t.line ≡ state_at c.rows t.master t.line))
        ↔ (victim setup c.rows t.master (access_line access) ≡ Some (t.line, state_at c.rows t.master t.line))
    told = victim_told setup n c t.master (access_line access) t.line (state_at c.rows t.master t.line) sound

    Facts : Type 0
    Facts =
        IsTrue (wants_row setup c.rows t.master access)
        × ((option_map {U = ℕ} (λ (v : ℕ × State). v.0) (victim setup c.rows t.master (access_line access))
        ≡ Some t.line)
        × (IsTrue (owns (state_at c.rows t.master t.line))
        × ((t.event ≡ Flu) × ((t.outcome ≡ Fixed I) × Unit {0}))))

    facts : (all_of (wants ∷ gone ∷ owned ∷ flushes ∷ left ∷ []) ≡ true) ↔ Facts
    facts =
        one_more wants (gone ∷ owned ∷ flushes ∷ left ∷ []) _ _ (itself wants _ w)
        (one_more gone (owned ∷ flushes ∷ left ∷ []) _ _ g
        (one_more owned (flushes ∷ left ∷ []) _ _ (itself owned _ o)
        (one_more flushes (left ∷ []) _ _ f
        (one_more left [] _ _ l none_left))))

    build : Facts → ForVictim setup c.rows t access
    build x =
        record { wants = x.0; victim = told.0 (x.1.0, refl); owned = x.1.1.0; event = x.1.1.1.0; outcome = x.1.1.1.1.0 }

granted_is : (phase : Phase) (board : ℕ) → (is_granted phase board ≡ true) ↔ (phase ≡ Granted board)
granted_is Idle board = (λ h. cc, λ e. cc)
granted_is (Granted b) board =
    (λ h. ap Granted (eqb-true b board h), λ e. ap (λ phase. is_granted phase board) e ∙ eq-eqb board board refl)
granted_is (Connected t) board = (λ h. cc, λ e. cc)

-- The test of the answers tells whether they fit.
fit_told :
    (setup : Setup) (rows : List Row) (line : ℕ) (event : BusEvent) (boards : List ℕ) (answers : List Answer)
    → (do_answers_fit setup rows line event boards answers ≡ true) ↔ AnswersFit setup rows line event boards answers
fit_told setup rows line event [] [] = (λ h. tt, λ f. refl)
fit_told setup rows line event (board ∷ boards) (a ∷ answers) =
    let rest = fit_told setup rows line event boards answers in
    let own = has_answer (answers_of (table_of setup board) (state_at rows board line) event) a.action in
    let later = do_answers_fit setup rows line event boards answers in (
      λ h. let p =
          and_parts (does_answer_fit setup rows line event board a) later h in let q = and_parts (a.board == board) own
          p.0 in (eqb-true a.board board q.0, q.1, rest.0 p.1),
      λ f.
          and_from (does_answer_fit setup rows line event board a) later
          (and_from (a.board == board) own (eq-eqb a.board board f.0) f.1) (rest.1 f.2),
    )
fit_told setup rows line event [] (a ∷ answers) = (λ h. cc, λ f. absurd f)
fit_told setup rows line event (board ∷ boards) [] = (λ h. cc, λ f. absurd f)

pub connect_told :
    (setup : Setup) (c : Configuration) (t : Transaction) (access : Access) (granted purpose answers : Bool)
    → granted ≡ is_granted c.phase t.master
    → ((purpose ≡ true) ↔ Purpose setup c.rows t access)
    → answers ≡ do_answers_fit setup c.rows t.line t.event (other_holders setup c.rows t.master t.line) t.answers
    → present_access setup c.boards t.master ≡ Some access
    → (all_of (granted ∷ purpose ∷ answers ∷ []) ≡ true) ↔ ((a : Access) × CanConnect setup c t a)
connect_told setup c t access granted purpose answers g p a now = (λ h. build (facts.0 h), λ r. facts.1 (parts r))
  where
    Facts : Type 0
    Facts =
        (c.phase ≡ Granted t.master)
        × (Purpose setup c.rows t access
        × (AnswersFit setup c.rows t.line t.event (other_holders setup c.rows t.master t.line) t.answers
        × Unit {0}))

    facts : (all_of (granted ∷ purpose ∷ answers ∷ []) ≡ true) ↔ Facts
    facts =
        one_more granted (purpose ∷ answers ∷ []) _ _ (as_well granted _ _ g (granted_is c.phase t.master))
        (one_more purpose (answers ∷ []) _ _ p
        (one_more answers [] _ _ (as_well answers _ _ a
        (fit_told setup c.rows t.line t.event (other_holders setup c.rows t.master t.line) t.answers)) none_left))

    build : Facts → (a : Access) × CanConnect setup c t a
    build f = (access, record { present = now; granted = f.0; purpose = f.1.0; answers = f.1.1.0 })

    parts : (a : Access) × CanConnect setup c t a → Facts
    parts r =
        let here : r.0 ≡ access = same_Some r.0 access (sym r.1.present ∙ now) in
        (r.1.granted, (subst (Purpose setup c.rows t) here r.1.purpose, (r.1.answers, tt)))
