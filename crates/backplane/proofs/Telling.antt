-- The facts of an event together mean that it may happen.
use Rattle.std.proofs.Common.{Bool, None, Option, Some, [], ap, not, refl, subst, sym, true, ℕ, ◌∙◌, ◌∷◌, ◌≡◌, ◌||◌}
use Rattle.std.proofs.lemmas.Option.{same_Some}
use Rattle.std.specs.Prelude.{IsFalse, IsTrue, option_map, ◌↔◌}
use Rattle.bus_signals.specs.declared.Access.{Access}
use Rattle.moesi_state.specs.declared.State.{State}
use Rattle.class_relation.specs.Actions.{has_local, silently}
use Rattle.bus_model.specs.Setup.{Setup}
use Rattle.bus_model.specs.Events.{Done}
use Rattle.bus_model.specs.Configuration.{Configuration, is_connected, is_granted, is_held, is_raised, present_access, state_at, words_at}
use Rattle.bus_model.specs.Board.{access_line, cell_of, is_clean, needs_bus, victim, wants_row}
use Rattle.bus_model.specs.Carrying.{reply_of}
use Rattle.bus_model.specs.Soundness.{RowsSound}
use Rattle.bus_model.specs.Steps.{CanDrop, CanLocal, CanRaise, is_quiet}
use Rattle.coherence.proofs.Victims.{victim_state}
use Rattle.backplane.proofs.Deciding.{all_of, itself, negated, none_left, one_more, unless}

pub raise_told :
    (setup : Setup) (c : Configuration) (board : ℕ) (access : Access) (raised granted connected needs : Bool)
    → raised ≡ is_raised c.boards board → granted ≡ is_granted c.phase board → connected ≡ is_connected c.phase board
    → needs ≡ needs_bus setup c.rows board access → present_access setup c.boards board ≡ Some access
    → (all_of (not raised ∷ not granted ∷ not connected ∷ needs ∷ []) ≡ true)
    ↔ ((a : Access) × CanRaise setup c board a)
raise_told setup c board access raised granted connected needs r g k n present =
    (λ h. build (facts.0 h), λ r. facts.1 (parts r))
  where
    Facts : Type 0
    Facts =
        IsFalse (is_raised c.boards board)
        × (IsFalse (is_granted c.phase board)
        × (IsFalse (is_connected c.phase board) × (IsTrue (needs_bus setup c.rows board access) × Unit {0})))

    facts : (all_of (not raised ∷ not granted ∷ not connected ∷ needs ∷ []) ≡ true) ↔ Facts
    facts =
        one_more (not raised) (not granted ∷ not connected ∷ needs ∷ []) _ _ (negated raised _ r)
        (one_more (not granted) (not connected ∷ needs ∷ []) _ _ (negated granted _ g)
        (one_more (not connected) (needs ∷ []) _ _ (negated connected _ k)
        (one_more needs [] _ _ (itself needs _ n) none_left)))

    build : Facts → (a : Access) × CanRaise setup c board a
    build f = (
      access,
      record { present = present; not_raised = f.0; not_granted = f.1.0; not_connected = f.1.1.0; needs = f.1.1.1.0 },
    )

    parts : (a : Access) × CanRaise setup c board a → Facts
    parts r =
        let same : r.0 ≡ access = same_Some r.0 access (sym r.1.present ∙ present) in (
          r.1.not_raised,
          (
            r.1.not_granted,
            (r.1.not_connected, (subst (λ a. IsTrue (needs_bus setup c.rows board a)) same r.1.needs, tt)),
          ),
        )

pub local_told :
    (setup : Setup) (c : Configuration) (board : ℕ) (access : Access) (before next : State) (done : Done)
    (present connected same alternative stays replied : Bool)
    → ((present ≡ true) ↔ (access ≡ done.access)) → connected ≡ is_connected c.phase board
    → ((same ≡ true) ↔ (state_at c.rows board (access_line access) ≡ before))
    → alternative ≡ has_local (cell_of setup c.rows board access) (silently next)
    → stays ≡ (not (is_held c.phase board (access_line access)) || is_quiet access before next)
    → ((replied ≡ true) ↔ (done.reply ≡ reply_of access (words_at c.rows board (access_line access))))
    → present_access setup c.boards board ≡ Some access
    → (all_of (present ∷ not connected ∷ same ∷ alternative ∷ stays ∷ replied ∷ []) ≡ true)
    ↔ CanLocal setup c board before next done
local_told setup c board access before next done present connected same alternative stays replied p k s a t r now =
    (λ h. build (facts.0 h), λ can. facts.1 (parts can))
  where
    Quiet : Access → Type 0
    Quiet access = is_held c.phase board (access_line access) ≡ true → is_quiet access before next ≡ true

    Facts : Type 0
    Facts =
        (access ≡ done.access)
        × (IsFalse (is_connected c.phase board)
        × ((state_at c.rows board (access_line access) ≡ before)
        × (IsTrue (has_local (cell_of setup c.rows board access) (silently next))
        × (Quiet access
        × ((done.reply ≡ reply_of access (words_at c.rows board (access_line access)))
        × Unit {0})))))

    facts : (all_of (present ∷ not connected ∷ same ∷ alternative ∷ stays ∷ replied ∷ []) ≡ true) ↔ Facts
    facts =
        one_more present (not connected ∷ same ∷ alternative ∷ stays ∷ replied ∷ []) _ _ p
        (one_more (not connected) (same ∷ alternative ∷ stays ∷ replied ∷ []) _ _ (negated connected _ k)
        (one_more same (alternative ∷ stays ∷ replied ∷ []) _ _ s
        (one_more alternative (stays ∷ replied ∷ []) _ _ (itself alternative _ a)
        (one_more stays (replied ∷ []) _ _ (unless stays _ _ t)
        (one_more replied [] _ _ r none_left)))))

    build : Facts → CanLocal setup c board before next done
    build f = record {
      present = now ∙ ap Some f.0;
      not_connected = f.1.0;
      state = subst (λ a. state_at c.rows board (access_line a) ≡ before) f.0 f.1.1.0;
      alternative = subst (λ a. IsTrue (has_local (cell_of setup c.rows board a) (silently next))) f.0 f.1.1.1.0;
      held = subst Quiet f.0 f.1.1.1.1.0;
      reply = subst (λ a. done.reply ≡ reply_of a (words_at c.rows board (access_line a))) f.0 f.1.1.1.1.1.0;
    }

    parts : CanLocal setup c board before next done → Facts
    parts can =
        let here : access ≡ done.access = same_Some access done.access (sym now ∙ can.present) in
        let back : done.access ≡ access = sym here in (
          here,
          (
            can.not_connected,
            (
              subst (λ a. state_at c.rows board (access_line a) ≡ before) back can.state,
              (
                subst (λ a. IsTrue (has_local (cell_of setup c.rows board a) (silently next))) back can.alternative,
                (
                  subst Quiet back can.held,
                  (subst (λ a. done.reply ≡ reply_of a (words_at c.rows board (access_line a))) back can.reply, tt),
                ),
              ),
            ),
          ),
        )

-- A line and a state are those of the victim if the line is the victim's and the state is that of the board's copy.
pub victim_told :
    (setup : Setup) (n : ℕ) (c : Configuration) (board line : ℕ) (other : ℕ) (before : State)
    → RowsSound setup n c.rows c.boards
    → ((option_map {U = ℕ} (λ (v : ℕ × State). v.0) (victim setup c.rows board line) ≡ Some other)
    × (state_at c.rows board other ≡ before)) ↔ (victim setup c.rows board line ≡ Some (other, before))
victim_told setup n c board line other before sound = (
  λ h. go (victim setup c.rows board line) refl h.0 h.1,
  λ e. (
    ap (option_map {U = ℕ} (λ (v : ℕ × State). v.0)) e,
    sym (victim_state setup n c.rows c.boards board line (other, before) sound e).0,
  ),
)
  where
    go :
        (o : Option (ℕ × State)) → victim setup c.rows board line ≡ o
        → option_map {U = ℕ} (λ (v : ℕ × State). v.0) o ≡ Some other → state_at c.rows board other ≡ before
        → o ≡ Some (other, before)
    go None k e h = cc
    go (Some v) k e h =
        let first : v.0 ≡ other = same_Some v.0 other e in
        let second : v.1 ≡ before =
        (victim_state setup n c.rows c.boards board line v sound k).0 ∙ ap (state_at c.rows board) first ∙ h in
        λ i. Some (first i, second i)

pub drop_told :
    (setup : Setup) (n : ℕ) (c : Configuration) (board line : ℕ) (before : State) (access : Access)
    (connected wants gone same clean held : Bool)
    → RowsSound setup n c.rows c.boards → connected ≡ is_connected c.phase board
    → wants ≡ wants_row setup c.rows board access
    → ((gone ≡ true)
    ↔ (option_map {U = ℕ} (λ (v : ℕ × State). v.0) (victim setup c.rows board (access_line access)) ≡ Some line))
    → ((same ≡ true) ↔ (state_at c.rows board line ≡ before)) → clean ≡ is_clean before
    → held ≡ is_held c.phase board line
    → present_access setup c.boards board ≡ Some access
    → (all_of (not connected ∷ wants ∷ gone ∷ same ∷ clean ∷ not held ∷ []) ≡ true)
    ↔ ((a : Access) × CanDrop setup c board line before a)
drop_told setup n c board line before access connected wants gone same clean held sound k w g s l d now =
    (λ h. build (facts.0 h), λ r. facts.1 (parts r))
  where
    Facts : Type 0
    Facts =
        IsFalse (is_connected c.phase board)
        × (IsTrue (wants_row setup c.rows board access)
        × ((option_map {U = ℕ} (λ (v : ℕ × State). v.0) (victim setup c.rows board (access_line access))
        ≡ Some line)
        × ((state_at c.rows board line ≡ before)
        × (IsTrue (is_clean before) × (IsFalse (is_held c.phase board line) × Unit {0})))))

    facts : (all_of (not connected ∷ wants ∷ gone ∷ same ∷ clean ∷ not held ∷ []) ≡ true) ↔ Facts
    facts =
        one_more (not connected) (wants ∷ gone ∷ same ∷ clean ∷ not held ∷ []) _ _ (negated connected _ k)
        (one_more wants (gone ∷ same ∷ clean ∷ not held ∷ []) _ _ (itself wants _ w)
        (one_more gone (same ∷ clean ∷ not held ∷ []) _ _ g
        (one_more same (clean ∷ not held ∷ []) _ _ s
        (one_more clean (not held ∷ []) _ _ (itself clean _ l)
        (one_more (not held) [] _ _ (negated held _ d) none_left)))))

    build : Facts → (a : Access) × CanDrop setup c board line before a
    build f = (
      access,
      record {
        present = now;
        not_connected = f.0;
        wants = f.1.0;
        victim = (victim_told setup n c board (access_line access) line before sound).0 (f.1.1.0, f.1.1.1.0);
        clean = f.1.1.1.1.0;
        not_held = f.1.1.1.1.1.0;
      },
    )

    parts : (a : Access) × CanDrop setup c board line before a → Facts
    parts r =
        let here : r.0 ≡ access = same_Some r.0 access (sym r.1.present ∙ now) in
        let v = (victim_told setup n c board (access_line access) line before sound).1
        (subst (λ a. victim setup c.rows board (access_line a) ≡ Some (line, before)) here r.1.victim) in (
          r.1.not_connected,
          (
            subst (λ a. IsTrue (wants_row setup c.rows board a)) here r.1.wants,
            (v.0, (v.1, (r.1.clean, (r.1.not_held, tt)))),
          ),
        )
