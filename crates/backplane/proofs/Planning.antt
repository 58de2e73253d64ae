-- A plan over parts that show a configuration is the model's turn.
use Rattle.std.proofs.Common.{◌≡◌, ℕ, List, Bool, false, cond, [], Option, Some, None, option_map, refl, ap, sym, ◌∙◌}
use Rattle.bus_signals.specs.declared.Access.{Access}
use Rattle.bus_signals.specs.declared.LocalEvent.{LocalEvent}
use Rattle.bus_signals.specs.Accesses.{kind_of}
use Rattle.moesi_state.specs.declared.State.TheVariants.{I}
use Rattle.class_relation.specs.declared.LocalAction.{LocalAction}
use Rattle.class_relation.specs.Actions.{silently}
use Rattle.class_relation.specs.Tables.{Table, locals_of}
use Rattle.moesi_state.specs.declared.State.{State}
use Rattle.moesi_state.specs.declared.Outcome.{Outcome}
use Rattle.moesi_state.specs.Outcomes.{is_invalid}
use Rattle.bus_model.specs.Setup.{Setup, BoardSpec, choose_of, table_of}
use Rattle.bus_model.specs.Events.{Event}
use Rattle.bus_model.specs.Configuration.{Configuration, Row, Phase, Idle, Granted, Connected, state_at, progress_of, is_connected}
use Rattle.bus_model.specs.Board.{access_line, victim}
use Rattle.bus_model.specs.Soundness.{Sound}
use Rattle.bus_model.specs.Turns.{pick, decide, victim_for, own_transaction}
use Rattle.bus_model.specs.TurnParts.{action_turn, access_turn}
use Rattle.board.specs.Rack.{Counts, counts_at, picked, setup_of}
use Rattle.connect_phase.proofs.Showing.{spent-place}
use Rattle.coherence.proofs.Victims.{victim_state}
use Rattle.backplane.specs.declared.parts.Parts.{Parts}
use Rattle.backplane.specs.Parts.{PartsShow, phase_of}

-- The rack's victim is the model's.
pub rack-victim :
    (setup : Setup) (c : Configuration) (p : Parts) (b l : ℕ) → PartsShow setup c p
    → victim (setup_of p.rack) p.rack.rows b l ≡ victim setup c.rows b l
rack-victim setup c p b l s =
    let bare : List BoardSpec → Setup =
    λ specs. record { memory = []; fair = false; tables = p.rack.tables; boards = specs; scripts = [] } in
    ap (λ (specs : List BoardSpec). victim (bare specs) p.rack.rows b l) s.boards
    ∙ ap (λ (rows : List Row). victim setup rows b l) s.rack.rows

-- The victim that must go, with its state.
pub victim-shown :
    (setup : Setup) (events : List Event) (c : Configuration) (p : Parts) (b l line : ℕ) (access : Access)
    (outcome : Outcome) (state : State)
    → Sound setup events c → PartsShow setup c p → is_invalid outcome ≡ false → l ≡ access_line access
    → Some line ≡ option_map (λ (v : ℕ × State). v.0) (victim (setup_of p.rack) p.rack.rows b l)
    → state ≡ state_at p.rack.rows b line
    → Some (line, state) ≡ victim_for setup c b access outcome
victim-shown setup events c p b l line access outcome state sound s keeps at told is =
    let e : Some line ≡ option_map (λ (v : ℕ × State). v.0) (victim setup c.rows b (access_line access)) =
    told ∙ ap (option_map (λ (v : ℕ × State). v.0)) (rack-victim setup c p b l s ∙ ap (victim setup c.rows b) at) in
    go (victim setup c.rows b (access_line access)) refl e
    ∙ sym (ap (λ (t : Bool). cond t None (victim setup c.rows b (access_line access))) keeps)
  where
    go :
        (o : Option (ℕ × State)) → victim setup c.rows b (access_line access) ≡ o
        → Some line ≡ option_map (λ (v : ℕ × State). v.0) o
        → Some (line, state) ≡ victim setup c.rows b (access_line access)
    go None h e = cc
    go (Some v) h e =
        let same : line ≡ v.0 = cc in
        let its = victim_state setup _ c.rows c.boards b (access_line access) v sound.rows h in
        let states : state ≡ v.1 =
        is ∙ ap (λ (rows : List Row). state_at rows b line) s.rack.rows ∙ ap (state_at c.rows b) same ∙ sym its.0 in
        ap (λ (n : ℕ). Some (n, state)) same ∙ ap (λ (x : State). Some (v.0, x)) states ∙ sym h

-- What the rack picks is what the model decides.
pub decide-shown :
    (setup : Setup) (c : Configuration) (p : Parts) (b line : ℕ) (event : LocalEvent) (access : Access)
    → PartsShow setup c p → line ≡ access_line access → event ≡ kind_of access
    → picked p.rack b line event ≡ decide setup c b access
decide-shown setup c p b line event access s at kind =
    let other = silently I in
    let bare : List Table → List BoardSpec → Setup =
    λ tables specs. record { memory = []; fair = false; tables = tables; boards = specs; scripts = [] } in
    let by : List Table → List BoardSpec → ℕ → List Row → ℕ → LocalEvent → LocalAction =
    λ tables specs n rows l e.
    pick other (choose_of (bare tables specs) b) n
    (locals_of (table_of (bare tables specs) b) (state_at rows b l) e) in
    let spent : (counts_at p.rack.counts b).spent ≡ (progress_of c.boards b).spent =
    ap (λ (cs : List Counts). (counts_at cs b).spent) s.rack.counts ∙ spent-place c.boards b in
    ap (λ (tables : List Table). by tables p.rack.specs (counts_at p.rack.counts b).spent p.rack.rows line event)
    s.tables
    ∙ ap (λ (specs : List BoardSpec). by setup.tables specs (counts_at p.rack.counts b).spent p.rack.rows line event)
    s.boards
    ∙ ap (λ (n : ℕ). by setup.tables setup.boards n p.rack.rows line event) spent
    ∙ ap (λ (rows : List Row). by setup.tables setup.boards (progress_of c.boards b).spent rows line event) s.rack.rows
    ∙ ap (λ (l : ℕ). by setup.tables setup.boards (progress_of c.boards b).spent c.rows l event) at
    ∙ ap (λ (e : LocalEvent). by setup.tables setup.boards (progress_of c.boards b).spent c.rows (access_line access) e)
    kind

own-none : (phase : Phase) (b : ℕ) → is_connected phase b ≡ false → own_transaction phase b ≡ None
own-none Idle b h = refl
own-none (Granted g) b h = refl
own-none (Connected t) b h = rw h refl

-- The turn of a board that is not connected goes by the action that it decides.
pub action-shown :
    (setup : Setup) (c : Configuration) (p : Parts) (b : ℕ) (access : Access) (action : LocalAction)
    → PartsShow setup c p → is_connected (phase_of p.phase) b ≡ false → action ≡ decide setup c b access
    → action_turn setup c b access action.result action.bus ≡ access_turn setup c b access (own_transaction c.phase b)
action-shown setup c p b access action s free is =
    ap (λ (a : LocalAction). action_turn setup c b access a.result a.bus) is
    ∙ sym (ap (access_turn setup c b access)
    (own-none c.phase b (ap (λ (q : Phase). is_connected q b) (sym s.phase) ∙ free)))
