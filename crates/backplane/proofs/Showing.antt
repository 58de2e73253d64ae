-- The parts after each change show the configuration after it.
use Rattle.std.proofs.Common.{◌≡◌, ℕ, zero, suc, ◌-◌, ◌≤◌, Bool, true, false, cond, List, [], ◌∷◌, length, map, replicate, refl, ap, sym, subst, ◌∙◌, arith, Option, Some, None}
use Rattle.std.specs.Prelude.{unwrap_or, slice_get, slice_set, filter_map, if◌then◌else◌, is_some}
use Rattle.moesi_state.specs.declared.State.{State}
use Rattle.moesi_state.specs.States.{holds}
use Rattle.bus_model.specs.Places.{change_place}
use Rattle.bus_model.specs.Arbitration as bus
use Rattle.bus_model.specs.Setup.{Setup, WellFormed}
use Rattle.bus_model.specs.Soundness.{ArbitrationFits, PartsFit}
use Rattle.bus_model.specs.Events.{Answer, Transaction, Carried, Done}
use Rattle.bus_model.specs.Configuration.{Configuration, Row, Progress, Arbitration, ByNumber, Fair, fresh, progress_of, has_row, is_granted, lines_of_words, words_at}
use Rattle.bus_model.specs.Configuration as model
use Rattle.bus_model.specs.Effects.{asking, spent, filled, completed, answered, ask, spend, complete, in_phase, without_grant, put_copy, put_memory, change_copy, change_rows, fill_copy, copy_as, with_row}
use Rattle.bus_model.specs.Carrying.{written, answering_row, memory_words, master_words, state_of_master}
use Rattle.bus_model.specs.Board.{access_line}
use Rattle.bus_model.specs.Steps.{after_local, after_grant, after_connect, after_data, complete_if}
use Rattle.arbiter.specs.Raised.{Requests, marks_at_grant, with_mark, with_request, won_by}
use Rattle.board.specs.Rack.{Rack, Counts, counts_at, no_counts, one_more_fill, one_more_spent, rack_spent, rack_put, rack_changed, rack_filled}
use Rattle.board.specs.Shown.{counts_from}
use Rattle.connect_phase.specs.Answering.{rack_answered}
use Rattle.connect_phase.proofs.Showing.{one-place, answers-spent}
use Rattle.data_phase.specs.Seen.{Shows}
use Rattle.backplane.specs.declared.phase.Phase.{Phase}
use Rattle.backplane.specs.declared.phase.Phase.TheVariants.{Idle}
use Rattle.backplane.specs.declared.parts.Parts.{Parts}
use Rattle.backplane.specs.Parts.{PartsShow, MarksFit, ServedFit, ArbitrationShows, phase_of}
use Rattle.backplane.proofs.Changes.{map-place, kept-place, swap-place}
use Rattle.backplane.proofs.Marks.{mark-set, mark-kept, marks-answered, served-set, served-cleared}
use Rattle.backplane.proofs.Grants.{any-shown}
use Rattle.coherence.proofs.Fairness.{data-arbitration}
use Rattle.std.specs.Global.{Vec}

-- A request says nothing of the arbitration.
asked :
    (requests : Requests) (b : ℕ) (raised : Bool) (a : Arbitration) → ArbitrationShows a requests
    → ArbitrationShows a (with_request requests b raised)
asked requests b raised ByNumber h = h
asked requests b raised (Fair served) h = h

-- A request that is raised or lowered.
pub shown-ask :
    (setup : Setup) (c : Configuration) (p : Parts) (requests : Requests) (b : ℕ) (raised : Bool) → 1 ≤ b
    → requests ≡ with_request p.requests b raised
    → PartsShow setup c p → PartsShow setup (ask raised c b) (record p { requests = requests })
shown-ask setup c p requests b raised low e s = record {
  tables = s.tables;
  boards = s.boards;
  rack =
      record {
        rows = s.rack.rows;
        counts = s.rack.counts ∙ sym (kept-place counts_from (asking raised) (λ q. refl) c.boards b);
      };
  memory = s.memory;
  numbers = ap (λ (r : Requests). r.numbers) e ∙ s.numbers;
  raised = rw e (mark-set raised c.boards p.requests.raised b low s.raised);
  arbitration = rw e (asked p.requests b raised c.arbitration s.arbitration);
  places = s.places ∙ sym (kept-place (λ (q : Progress). q.place) (asking raised) (λ q. refl) c.boards b);
  phase = s.phase;
}

-- ---- a grant

-- What a mark for a winner leaves as it is.
mark-raised : (requests : Requests) (w : ℕ) → (with_mark requests w).raised ≡ requests.raised
mark-raised requests w = go requests.fair
  where
    go :
        (b : Bool)
        → (cond b (record requests { served = slice_set (marks_at_grant requests) (w - 1) true }) requests).raised
        ≡ requests.raised
    go true = refl
    go false = refl

mark-fair : (requests : Requests) (w : ℕ) → (with_mark requests w).fair ≡ requests.fair
mark-fair requests w = go requests.fair
  where
    go :
        (b : Bool)
        → (cond b (record requests { served = slice_set (marks_at_grant requests) (w - 1) true }) requests).fair
        ≡ requests.fair
    go true = refl
    go false = refl

mark-served :
    (requests : Requests) (w : ℕ) → requests.fair ≡ true
    → (with_mark requests w).served ≡ slice_set (marks_at_grant requests) (w - 1) true
mark-served requests w fair =
    ap (λ b. (cond b (record requests { served = slice_set (marks_at_grant requests) (w - 1) true }) requests).served)
    fair

mark-numbers : (requests : Requests) (w : ℕ) → (with_mark requests w).numbers ≡ requests.numbers
mark-numbers requests w = go requests.fair
  where
    go :
        (b : Bool)
        → (cond b (record requests { served = slice_set (marks_at_grant requests) (w - 1) true }) requests).numbers
        ≡ requests.numbers
    go true = refl
    go false = refl

-- The marks at a grant.
marks-shown :
    (setup : Setup) (c : Configuration) (p : Parts) (served : List Bool) → PartsShow setup c p → PartsFit setup c
    → length setup.boards ≤ 16 → ServedFit served p.requests.served → length served ≡ length setup.boards
    → ServedFit (bus.marks_at_grant served c.boards) (marks_at_grant p.requests)
marks-shown setup c p served s fit few h long =
    subst (λ (w : Bool).
    ServedFit (bus.marks_at_grant served c.boards) (cond w p.requests.served (replicate 16 false)))
    (sym (any-shown setup c p s fit served h long)) (go (bus.does_any_wait served c.boards))
  where
    go :
        (w : Bool)
        → ServedFit (cond w served (map (λ mark. false) served)) (cond w p.requests.served (replicate 16 false))
    go true = h
    go false = served-cleared served 16 (omega (arith, long, few))

won-shown :
    (setup : Setup) (c : Configuration) (p : Parts) (w : ℕ) → 1 ≤ w → PartsShow setup c p → PartsFit setup c
    → length setup.boards ≤ 16 → ArbitrationShows (bus.won_by w c.boards c.arbitration) (won_by p.requests w)
won-shown setup c p w low s fit few = go c.arbitration s.arbitration fit.arbitration
  where
    go :
        (a : Arbitration) → ArbitrationShows a p.requests → ArbitrationFits setup a
        → ArbitrationShows (bus.won_by w c.boards a) (won_by p.requests w)
    go ByNumber h f = mark-fair p.requests w ∙ h
    go (Fair served) h f = (
      mark-fair p.requests w ∙ h.0,
      subst (ServedFit (change_place (λ mark. true) (bus.marks_at_grant served c.boards) w))
          (sym (mark-served p.requests w h.0))
          (served-set (bus.marks_at_grant served c.boards) (marks_at_grant p.requests) w low
          (marks-shown setup c p served s fit few h.1 f.1)),
    )

-- The bus is granted to a board.
pub shown-grant :
    (setup : Setup) (c : Configuration) (p : Parts) (requests : Requests) (phase : Phase) (w : ℕ) → 1 ≤ w
    → WellFormed setup → PartsFit setup c → requests ≡ won_by p.requests w → phase_of phase ≡ model.Granted w
    → PartsShow setup c p → PartsShow setup (after_grant c w) (record p { requests = requests; phase = phase })
shown-grant setup c p requests phase w low well fit e ep s = record {
  tables = s.tables;
  boards = s.boards;
  rack =
      record {
        rows = s.rack.rows;
        counts = s.rack.counts ∙ sym (kept-place counts_from (asking false) (λ q. refl) c.boards w);
      };
  memory = s.memory;
  numbers = ap (λ (r : Requests). r.numbers) e ∙ mark-numbers p.requests w ∙ s.numbers;
  raised =
      subst (MarksFit (change_place (asking false) c.boards w))
      (sym (ap (λ (r : Requests). r.raised) e
      ∙ ap (λ (marks : List Bool). slice_set marks (w - 1) false) (mark-raised p.requests w)))
      (mark-set false c.boards p.requests.raised w low s.raised);
  arbitration = rw e (won-shown setup c p w low s fit well.boards_high);
  places = s.places ∙ sym (kept-place (λ (q : Progress). q.place) (asking false) (λ q. refl) c.boards w);
  phase = ep;
}

-- ---- other changes

-- Another phase.
pub shown-phase :
    (setup : Setup) (c : Configuration) (p : Parts) (phase : Phase) (next : model.Phase) → phase_of phase ≡ next
    → PartsShow setup c p → PartsShow setup (in_phase next c) (record p { phase = phase })
shown-phase setup c p phase next e s = record {
  tables = s.tables;
  boards = s.boards;
  rack = record { rows = s.rack.rows; counts = s.rack.counts };
  memory = s.memory;
  numbers = s.numbers;
  raised = s.raised;
  arbitration = s.arbitration;
  places = s.places;
  phase = e;
}

-- A draw that is spent.
pub shown-spend :
    (setup : Setup) (c : Configuration) (p : Parts) (rack : Rack) (b : ℕ) → rack ≡ rack_spent p.rack b
    → PartsShow setup c p → PartsShow setup (spend c b) (record p { rack = rack })
shown-spend setup c p rack b e s = record {
  tables = ap (λ (r : Rack). r.tables) e ∙ s.tables;
  boards = ap (λ (r : Rack). r.specs) e ∙ s.boards;
  rack = record {
    rows = ap (λ (r : Rack). r.rows) e ∙ s.rack.rows;
    counts =
        ap (λ (r : Rack). r.counts) e ∙ ap (λ (cs : List Counts). change_place one_more_spent cs b) s.rack.counts
        ∙ one-place c.boards b;
  };
  memory = s.memory;
  numbers = s.numbers;
  raised = mark-kept spent (λ q. refl) c.boards p.requests.raised b s.raised;
  arbitration = s.arbitration;
  places = s.places ∙ sym (kept-place (λ (q : Progress). q.place) spent (λ q. refl) c.boards b);
  phase = s.phase;
}

-- An access that is completed.
pub shown-complete :
    (setup : Setup) (c : Configuration) (p : Parts) (places : Vec ℕ) (b : ℕ)
    → places.items ≡ change_place suc p.places.items b → PartsShow setup c p
    → PartsShow setup (complete c b) (record p { places = places })
shown-complete setup c p places b e s = record {
  tables = s.tables;
  boards = s.boards;
  rack =
      record {
        rows = s.rack.rows;
        counts = s.rack.counts ∙ sym (kept-place counts_from completed (λ q. refl) c.boards b);
      };
  memory = s.memory;
  numbers = s.numbers;
  raised = mark-kept completed (λ q. refl) c.boards p.requests.raised b s.raised;
  arbitration = s.arbitration;
  places =
      e ∙ ap (λ (ns : List ℕ). change_place suc ns b) s.places
      ∙ sym (map-place (λ (q : Progress). q.place) completed suc (λ q. refl) c.boards b);
  phase = s.phase;
}

fills-index :
    (ps : List Progress) (m : ℕ)
    → (unwrap_or (slice_get (map counts_from ps) m) no_counts).fills ≡ (unwrap_or (slice_get ps m) fresh).fills
fills-index [] m = refl
fills-index (p ∷ ps) zero = refl
fills-index (p ∷ ps) (suc m) = fills-index ps m

-- The fills that the rack counts are those of the configuration.
pub fills-place : (ps : List Progress) (b : ℕ) → (counts_at (map counts_from ps) b).fills ≡ (progress_of ps b).fills
fills-place ps zero = refl
fills-place ps (suc m) = fills-index ps m

shown-put-by :
    (here held : Bool) (setup : Setup) (c : Configuration) (p : Parts) (rack : Rack) (b l : ℕ) (state : State)
    (words : List ℕ)
    → rack ≡ cond here (rack_changed p.rack b l state words) (cond held (rack_filled p.rack b l state words) p.rack)
    → PartsShow setup c p
    → PartsShow setup (cond here (change_copy c b l state words) (cond held (fill_copy c b l state words) c))
    (record p { rack = rack })
shown-put-by true held setup c p rack b l state words e s = record {
  tables = ap (λ (r : Rack). r.tables) e ∙ s.tables;
  boards = ap (λ (r : Rack). r.specs) e ∙ s.boards;
  rack = record {
    rows =
        ap (λ (r : Rack). r.rows) e ∙ ap (λ (rows : List Row). filter_map (copy_as b l state words) rows) s.rack.rows;
    counts = ap (λ (r : Rack). r.counts) e ∙ s.rack.counts;
  };
  memory = s.memory;
  numbers = s.numbers;
  raised = s.raised;
  arbitration = s.arbitration;
  places = s.places;
  phase = s.phase;
}
shown-put-by false true setup c p rack b l state words e s = record {
  tables = ap (λ (r : Rack). r.tables) e ∙ s.tables;
  boards = ap (λ (r : Rack). r.specs) e ∙ s.boards;
  rack = record {
    rows =
        ap (λ (r : Rack). r.rows) e
        ∙ ap (λ (rows : List Row).
        with_row (record {
          board = b;
          line = l;
          state = state;
          words = words;
          fill = (counts_at p.rack.counts b).fills;
        }) rows) s.rack.rows
        ∙ ap (λ (n : ℕ). with_row (record { board = b; line = l; state = state; words = words; fill = n }) c.rows)
        (ap (λ (cs : List Counts). (counts_at cs b).fills) s.rack.counts ∙ fills-place c.boards b);
    counts =
        ap (λ (r : Rack). r.counts) e ∙ ap (λ (cs : List Counts). change_place one_more_fill cs b) s.rack.counts
        ∙ sym (map-place counts_from filled one_more_fill (λ q. refl) c.boards b);
  };
  memory = s.memory;
  numbers = s.numbers;
  raised = mark-kept filled (λ q. refl) c.boards p.requests.raised b s.raised;
  arbitration = s.arbitration;
  places = s.places ∙ sym (kept-place (λ (q : Progress). q.place) filled (λ q. refl) c.boards b);
  phase = s.phase;
}
shown-put-by false false setup c p rack b l state words e s = record {
  tables = ap (λ (r : Rack). r.tables) e ∙ s.tables;
  boards = ap (λ (r : Rack). r.specs) e ∙ s.boards;
  rack =
      record {
        rows = ap (λ (r : Rack). r.rows) e ∙ s.rack.rows;
        counts = ap (λ (r : Rack). r.counts) e ∙ s.rack.counts;
      };
  memory = s.memory;
  numbers = s.numbers;
  raised = s.raised;
  arbitration = s.arbitration;
  places = s.places;
  phase = s.phase;
}

-- A copy that gets a state and words.
pub shown-put :
    (setup : Setup) (c : Configuration) (p : Parts) (rack : Rack) (b l : ℕ) (state : State) (words : List ℕ)
    → rack ≡ rack_put p.rack b l state words
    → PartsShow setup c p → PartsShow setup (put_copy c b l state words) (record p { rack = rack })
shown-put setup c p rack b l state words e s =
    let here : rack
    ≡ cond (has_row c.rows b l) (rack_changed p.rack b l state words)
    (cond (holds state) (rack_filled p.rack b l state words) p.rack) =
    e
    ∙ ap (λ (rows : List Row).
    cond (has_row rows b l) (rack_changed p.rack b l state words)
    (cond (holds state) (rack_filled p.rack b l state words) p.rack)) s.rack.rows in
    shown-put-by (has_row c.rows b l) (holds state) setup c p rack b l state words here s

-- The phase that is left where a board has a grant, and where it has none.
grant-left : (phase : model.Phase) (b : ℕ) → is_granted phase b ≡ true → model.Idle ≡ without_grant phase b
grant-left model.Idle b h = refl
grant-left (model.Granted g) b h = rw h refl
grant-left (model.Connected t) b h = cc

no-grant-left : (phase : model.Phase) (b : ℕ) → is_granted phase b ≡ false → phase ≡ without_grant phase b
no-grant-left model.Idle b h = refl
no-grant-left (model.Granted g) b h = rw h refl
no-grant-left (model.Connected t) b h = refl

-- What a board does to the parts where it completes an access by itself: it puts its copy, spends a draw, lowers its
-- request and goes to its next place.
pub record Settles (p : Parts) (put spent : Rack) (requests : Requests) (places : Vec ℕ) (b line : ℕ) (state : State)
    (words : List ℕ) : Type 0 where
  pub puts : put ≡ rack_put p.rack b line state words
  pub spends : spent ≡ rack_spent put b
  pub lowers : requests ≡ with_request p.requests b false
  pub completes : places.items ≡ change_place suc p.places.items b

-- The words of the copy, with the written word.
pub words-written :
    (p : Parts) (b line : ℕ) (copied words : List ℕ) (done : Done) → line ≡ access_line done.access
    → copied ≡ words_at p.rack.rows b line → words ≡ written done.access copied
    → words ≡ written done.access (words_at p.rack.rows b (access_line done.access))
words-written p b line copied words done el ec ew = ew ∙ ap (written done.access) (ec ∙ ap (words_at p.rack.rows b) el)

shown-settled :
    (setup : Setup) (c : Configuration) (p : Parts) (put spent : Rack) (requests : Requests) (places : Vec ℕ)
    (b line : ℕ) (state : State) (words : List ℕ) (done : Done) → 1 ≤ b
    → Settles p put spent requests places b line state words → line ≡ access_line done.access
    → words ≡ written done.access (words_at p.rack.rows b (access_line done.access))
    → PartsShow setup c p
    → PartsShow setup (ask false (spend (complete (put_copy c b (access_line done.access) state
    (written done.access (words_at c.rows b (access_line done.access)))) b) b) b)
    (record p { rack = spent; requests = requests; places = places })
shown-settled setup c p put spent requests places b line state words done low h el ew s =
    let at = access_line done.access in
    let now = written done.access (words_at c.rows b at) in
    let moved = put_copy c b at state now in
    let puts : put ≡ rack_put p.rack b at state now =
    h.puts ∙ ap (λ (l : ℕ). rack_put p.rack b l state words) el
    ∙ ap (λ (w : List ℕ). rack_put p.rack b at state w)
    (ew ∙ ap (λ (rows : List Row). written done.access (words_at rows b at)) s.rack.rows) in
    let first = shown-put setup c p put b at state now puts s in
    let second = shown-complete setup moved (record p { rack = put }) places b h.completes first in
    let third =
    shown-spend setup (complete moved b) (record p { rack = put; places = places }) spent b h.spends second in
    shown-ask setup (spend (complete moved b) b) (record p { rack = spent; places = places }) requests b false low
    h.lowers third

-- An access that a board completes by itself, where it has no grant.
pub shown-local :
    (setup : Setup) (c : Configuration) (p : Parts) (put spent : Rack) (requests : Requests) (places : Vec ℕ)
    (b line : ℕ) (state : State) (words : List ℕ) (done : Done) → 1 ≤ b
    → Settles p put spent requests places b line state words → line ≡ access_line done.access
    → words ≡ written done.access (words_at p.rack.rows b (access_line done.access))
    → is_granted (phase_of p.phase) b ≡ false → PartsShow setup c p
    → PartsShow setup (after_local c b state done) (record p { rack = spent; requests = requests; places = places })
shown-local setup c p put spent requests places b line state words done low h el ew granted s =
    let settled = shown-settled setup c p put spent requests places b line state words done low h el ew s in
    let left : phase_of p.phase ≡ without_grant c.phase b =
    s.phase ∙ no-grant-left c.phase b (ap (λ (q : model.Phase). is_granted q b) (sym s.phase) ∙ granted) in
    shown-phase setup _ (record p { rack = spent; requests = requests; places = places }) p.phase
    (without_grant c.phase b) left settled

-- The same where it gives a grant up.
pub shown-local-granted :
    (setup : Setup) (c : Configuration) (p : Parts) (put spent : Rack) (requests : Requests) (places : Vec ℕ)
    (b line : ℕ) (state : State) (words : List ℕ) (done : Done) → 1 ≤ b
    → Settles p put spent requests places b line state words → line ≡ access_line done.access
    → words ≡ written done.access (words_at p.rack.rows b (access_line done.access))
    → is_granted (phase_of p.phase) b ≡ true → PartsShow setup c p
    → PartsShow setup (after_local c b state done)
    (record p { rack = spent; requests = requests; phase = Idle; places = places })
shown-local-granted setup c p put spent requests places b line state words done low h el ew granted s =
    let settled = shown-settled setup c p put spent requests places b line state words done low h el ew s in
    let left : model.Idle ≡ without_grant c.phase b =
    grant-left c.phase b (ap (λ (q : model.Phase). is_granted q b) (sym s.phase) ∙ granted) in
    shown-phase setup _ (record p { rack = spent; requests = requests; places = places }) Idle (without_grant c.phase b)
    left settled

answered-swap :
    (answers : List Answer) (boards : List Progress) (m : ℕ)
    → answered (change_place spent boards m) answers ≡ change_place spent (answered boards answers) m
answered-swap [] boards m = refl
answered-swap (a ∷ rest) boards m =
    ap (λ (ps : List Progress). answered ps rest) (swap-place spent boards m a.board)
    ∙ answered-swap rest (change_place spent boards a.board) m

answered-places :
    (answers : List Answer) (boards : List Progress)
    → map (λ (q : Progress). q.place) (answered boards answers) ≡ map (λ (q : Progress). q.place) boards
answered-places [] boards = refl
answered-places (a ∷ rest) boards =
    answered-places rest (change_place spent boards a.board)
    ∙ kept-place (λ (q : Progress). q.place) spent (λ q. refl) boards a.board

-- A transaction that is connected, its answers first and its master's draw then.
pub shown-connect :
    (setup : Setup) (c : Configuration) (p : Parts) (answering next : Rack) (phase : Phase) (t : Transaction)
    → answering ≡ rack_answered p.rack t.answers → next ≡ rack_spent answering t.master
    → phase_of phase ≡ model.Connected t
    → PartsShow setup c p → PartsShow setup (after_connect c t) (record p { rack = next; phase = phase })
shown-connect setup c p answering next phase t ea en ep s =
    let shown = answers-spent c p.rack answering t ea s.rack in
    record {
      tables = ap (λ (r : Rack). r.tables) en ∙ ap (λ (r : Rack). r.tables) ea ∙ s.tables;
      boards = ap (λ (r : Rack). r.specs) en ∙ ap (λ (r : Rack). r.specs) ea ∙ s.boards;
      rack = record {
        rows = ap (λ (r : Rack). r.rows) en ∙ shown.rows;
        counts =
            ap (λ (r : Rack). r.counts) en
            ∙ ap (λ (cs : List Counts). change_place one_more_spent cs t.master) shown.counts
            ∙ one-place (answered c.boards t.answers) t.master
            ∙ ap (map counts_from) (sym (answered-swap t.answers c.boards t.master));
      };
      memory = s.memory;
      numbers = s.numbers;
      raised =
          marks-answered t.answers (change_place spent c.boards t.master) p.requests.raised
          (mark-kept spent (λ q. refl) c.boards p.requests.raised t.master s.raised);
      arbitration = s.arbitration;
      places =
          s.places
          ∙ sym (answered-places t.answers (change_place spent c.boards t.master)
          ∙ kept-place (λ (q : Progress). q.place) spent (λ q. refl) c.boards t.master);
      phase = ep;
    }

-- ---- the data phase

kept-put-places : (here held : Bool) (c : Configuration) (b l : ℕ) (state : State) (words : List ℕ)
    → map (λ (q : Progress). q.place)
    (cond here (change_copy c b l state words) (cond held (fill_copy c b l state words) c)).boards
    ≡ map (λ (q : Progress). q.place) c.boards
kept-put-places true held c b l state words = refl
kept-put-places false true c b l state words = kept-place (λ (q : Progress). q.place) filled (λ q. refl) c.boards b
kept-put-places false false c b l state words = refl

kept-put-marks : (here held : Bool) (c : Configuration) (b l : ℕ) (state : State) (words : List ℕ) (marks : List Bool)
    → MarksFit c.boards marks
    → MarksFit (cond here (change_copy c b l state words) (cond held (fill_copy c b l state words) c)).boards marks
kept-put-marks true held c b l state words marks fit = fit
kept-put-marks false true c b l state words marks fit = mark-kept filled (λ q. refl) c.boards marks b fit
kept-put-marks false false c b l state words marks fit = fit

remembered-boards :
    (takes : Bool) (c : Configuration) (l : ℕ) (words : List ℕ)
    → (cond takes (put_memory c l words) c).boards ≡ c.boards
remembered-boards true c l words = refl
remembered-boards false c l words = refl

-- The configuration after a data phase, but for the access that it completes and the phase.
abbrev placed : Configuration → Carried → Configuration
placed c e =
    let remembered = if e.takers.memory then put_memory c e.line (memory_words c e) else c in
    let answering = change_rows (answering_row e) remembered in
    put_copy answering e.master e.line (state_of_master e) (master_words c e)

abbrev answering_part : Configuration → Carried → Configuration
answering_part c e =
    change_rows (answering_row e) (if e.takers.memory then put_memory c e.line (memory_words c e) else c)

placed-places :
    (c : Configuration) (e : Carried)
    → map (λ (q : Progress). q.place) (placed c e).boards ≡ map (λ (q : Progress). q.place) c.boards
placed-places c e =
    kept-put-places (has_row (answering_part c e).rows e.master e.line) (holds (state_of_master e)) (answering_part c e)
    e.master e.line (state_of_master e) (master_words c e)
    ∙ ap (map (λ (q : Progress). q.place)) (remembered-boards e.takers.memory c e.line (memory_words c e))

placed-marks :
    (c : Configuration) (e : Carried) (marks : List Bool) → MarksFit c.boards marks → MarksFit (placed c e).boards marks
placed-marks c e marks fit =
    kept-put-marks (has_row (answering_part c e).rows e.master e.line) (holds (state_of_master e)) (answering_part c e)
    e.master e.line (state_of_master e) (master_words c e) marks
    (rw (remembered-boards e.takers.memory c e.line (memory_words c e)) fit)

data-marks-by :
    (d : Option Done) (c : Configuration) (b : ℕ) (marks : List Bool) → MarksFit c.boards marks
    → MarksFit (complete_if d c b).boards marks
data-marks-by None c b marks fit = fit
data-marks-by (Some done) c b marks fit = mark-kept completed (λ q. refl) c.boards marks b fit

data-places-by :
    (d : Option Done) (c : Configuration) (b : ℕ)
    → map (λ (q : Progress). q.place) (complete_if d c b).boards
    ≡ cond (is_some d) (change_place suc (map (λ (q : Progress). q.place) c.boards) b)
    (map (λ (q : Progress). q.place) c.boards)
data-places-by None c b = refl
data-places-by (Some done) c b = map-place (λ (q : Progress). q.place) completed suc (λ q. refl) c.boards b

-- The data of a transaction that have moved.
pub shown-data :
    (setup : Setup) (c : Configuration) (p : Parts) (rack : Rack) (words : List ℕ) (places : Vec ℕ) (phase : Phase)
    (e : Carried)
    → rack.tables ≡ p.rack.tables → rack.specs ≡ p.rack.specs → Shows (after_data c e) rack words
    → places.items ≡ cond (is_some e.done) (change_place suc p.places.items e.master) p.places.items
    → phase_of phase ≡ model.Idle
    → PartsShow setup c p
    → PartsShow setup (after_data c e) (record p { rack = rack; memory = words; places = places; phase = phase })
shown-data setup c p rack words places phase e et eb shows en ep s = record {
  tables = et ∙ s.tables;
  boards = eb ∙ s.boards;
  rack = shows.rack;
  memory = shows.memory;
  numbers = s.numbers;
  raised = data-marks-by e.done (placed c e) e.master p.requests.raised (placed-marks c e p.requests.raised s.raised);
  arbitration =
      subst (λ (a : Arbitration). ArbitrationShows a p.requests) (sym (data-arbitration c e)) s.arbitration;
  places =
      en
      ∙ ap (λ (ns : List ℕ). cond (is_some e.done) (change_place suc ns e.master) ns)
      (s.places ∙ sym (placed-places c e))
      ∙ sym (data-places-by e.done (placed c e) e.master);
  phase = ep;
}
