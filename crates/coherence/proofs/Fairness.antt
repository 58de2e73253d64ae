-- A step keeps the part of the invariant that speaks of fairness: while a board stays raised each other board wins at
-- most two grants.
use Rattle.bus_model.specs.Arbitration.{Wins, does_any_wait, does_compete, is_waiting, marks_at_grant, won_by}
use Rattle.bus_model.specs.Board.{access_line}
use Rattle.bus_model.specs.Carrying.{written}
use Rattle.bus_model.specs.Configuration.{Arbitration, ByNumber, Configuration, Fair, Progress, is_raised, is_served, opening, words_at}
use Rattle.bus_model.specs.Effects.{asking, completed, put_copy, spent}
use Rattle.bus_model.specs.Events.{Carried, Connect, DataPhase, Drop, Event, Grant, Local, Raise}
use Rattle.bus_model.specs.Fairness.{GrantsAreFair, wins_after, wins_since, wins_with}
use Rattle.bus_model.specs.Places.{change_place, places_from}
use Rattle.bus_model.specs.Setup.{BoardSpec, Setup}
use Rattle.bus_model.specs.Soundness.{ArbitrationFits, FairSound, PartsFit, Sound}
use Rattle.bus_model.specs.Steps.{Can, after}
use Rattle.coherence.proofs.Competing.{competes_raised, length-marks, raised_in, raised_place}
use Rattle.coherence.proofs.DataPhase.{after_data-is, data_raised}
use Rattle.coherence.proofs.Lists.{any-in}
use Rattle.coherence.proofs.OtherBoards.{others_unchanged}
use Rattle.coherence.proofs.Places.{IsPlace, at_place_there, change_place-other, change_place-same}
use Rattle.coherence.proofs.Progress.{connected_course, lowered, progress-other}
use Rattle.coherence.proofs.Puts.{put_copy-is}
use Rattle.moesi_state.specs.declared.State.{State}
use Rattle.std.proofs.Common.{Bool, List, [], ap, arith, cond, false, length, map, not, option_map, refl, subst, suc, sym, true, unwrap_or, zero, ℕ, ◌+◌, ◌++◌, ◌∙◌, ◌∷◌, ◌≡◌, ◌≢◌, ◌≤◌, ◌||◌}
use Rattle.std.proofs.lemmas.Bool.{and_from, and_parts, both_ways, eqb-false, eqb-true}
use Rattle.std.proofs.lemmas.List.{length-map}
use Rattle.std.specs.Prelude.{◌==◌}

-- ---- the arbitration

pub put_copy-arbitration :
    (c : Configuration) (board line : ℕ) (state : State) (words : List ℕ)
    → (put_copy c board line state words).arbitration ≡ c.arbitration
put_copy-arbitration c board line state words =
    ap (λ (d : Configuration). d.arbitration) (put_copy-is c board line state words)

pub data-arbitration : (c : Configuration) (e : Carried) → (after c (DataPhase e)).arbitration ≡ c.arbitration
data-arbitration c e = ap (λ (d : Configuration). d.arbitration) (after_data-is c e)

-- ---- the grants that were won

wins_more :
    (board other wins : ℕ) (events : List Event) (event : Event)
    → wins_after board other wins (events ++ event ∷ [])
    ≡ wins_with board other (wins_after board other wins events) event
wins_more board other wins [] event = refl
wins_more board other wins (e ∷ events) event = wins_more board other (wins_with board other wins e) events event

-- ---- the marks after a grant

-- No board is served once all marks are cleared.
cleared : (served : List Bool) (board : ℕ) → is_served (map (λ mark. false) served) board ≡ false
cleared served zero = refl
cleared served (suc k) = go served k
  where
    go : (marks : List Bool) (k : ℕ) → is_served (map (λ mark. false) marks) (suc k) ≡ false
    go [] zero = refl
    go [] (suc k) = refl
    go (m ∷ marks) zero = refl
    go (m ∷ marks) (suc k) = go marks k

-- The winner is served.
winner_served :
    (marks : List Bool) (winner : ℕ) → IsPlace (length marks) winner
    → is_served (change_place (λ mark. true) marks winner) winner ≡ true
winner_served marks winner there =
    let here = at_place_there marks winner there in
    ap (λ o. unwrap_or o false) (change_place-same (λ mark. true) marks winner ∙ ap (option_map (λ mark. true)) here.1)

-- The others are served as before.
other_served :
    (marks : List Bool) (winner other : ℕ) → winner ≢ other
    → is_served (change_place (λ mark. true) marks winner) other ≡ is_served marks other
other_served marks winner other apart =
    ap (λ o. unwrap_or o false) (change_place-other (λ mark. true) marks winner other apart)

-- Where no board waits to be served, a raised one was served.
none_waits :
    (served : List Bool) (boards : List Progress) (board : ℕ) → does_any_wait served boards ≡ false
    → is_raised boards board ≡ true → is_served served board ≡ true
none_waits served boards board none raised = go (is_served served board) refl
  where
    go : (s : Bool) → is_served served board ≡ s → s ≡ true
    go true e = refl
    go false e =
        let waits : is_waiting served boards board ≡ true =
        and_from (is_raised boards board) (not (is_served served board)) raised (ap not e) in
        let any =
        any-in (is_waiting served boards) (places_from 1 boards) board (raised_in boards board raised) waits in
        absurd (both_ways (does_any_wait served boards) none any)

-- Where some board waits to be served, the winner was not served.
waiting_wins :
    (served : List Bool) (boards : List Progress) (winner : ℕ) → does_any_wait served boards ≡ true
    → does_compete (Fair served) boards winner ≡ true → is_served served winner ≡ false
waiting_wins served boards winner some competes =
    go (does_any_wait served boards) (is_served served winner) some
    (and_parts (is_raised boards winner) (not (does_any_wait served boards) || not (is_served served winner))
    competes).1
  where
    go : (w s : Bool) → w ≡ true → (not w || not s) ≡ true → s ≡ false
    go true true e h = cc
    go true false e h = refl
    go false s e h = cc

-- The wins that another board may have, by whether each of the two was served.
abbrev allowed : Bool → Bool → ℕ
allowed served other = cond served 0 1 + cond other 1 0

-- One more win is allowed where the other board was not served before.
one_more_allowed : (s : Bool) (w : ℕ) → w ≤ allowed s false → suc w ≤ allowed s true
one_more_allowed true w h = omega (arith, h)
one_more_allowed false w h = omega (arith, h)

least : (n : ℕ) → 0 ≤ n
least n = omega arith

module _ (setup : Setup) (events : List Event) (boards : List Progress) (served : List Bool)
    (fits : length served ≡ length boards) (by winner lines rounds : ℕ)
    (competes : does_compete (Fair served) boards winner ≡ true) (board other : ℕ) (apart : board ≢ other)
    (raised : is_raised boards board ≡ true) (lost : winner ≢ board)
    (old : wins_since board other events ≤ allowed (is_served served board) (is_served served other)) where
  abbrev marks : List Bool
  marks = marks_at_grant served boards

  abbrev later : List Bool
  later = change_place (λ mark. true) marks winner

  marked : is_served later winner ≡ true
  marked =
      let there = raised_place boards winner (competes_raised (Fair served) boards winner competes) in
      winner_served marks winner
      (subst (λ n. IsPlace n winner) (sym (length-marks served boards ∙ fits)) there)

  mark_is :
      (b w : Bool) (k : ℕ) → does_any_wait served boards ≡ w
      → is_served (cond w served (map (λ mark. false) served)) k ≡ b → is_served marks k ≡ b
  mark_is b w k e h = ap (λ x. is_served (cond x served (map (λ mark. false) served)) k) e ∙ h

  own_mark : (m : Bool) → is_served marks board ≡ m → is_served later board ≡ m
  own_mark m e = other_served marks winner board lost ∙ e

  -- What is to be shown, where it is known which board won and who is marked.
  bounded :
      (d : Bool) (b o : Bool) → (winner == other) ≡ d → is_served later board ≡ b → is_served later other ≡ o
      → cond d (suc (wins_since board other events)) (wins_since board other events) ≤ allowed b o
      → wins_since board other (events ++ Grant by winner lines rounds ∷ [])
      ≤ allowed (is_served later board) (is_served later other)
  bounded d b o e eb eo h =
      let more : wins_since board other (events ++ Grant by winner lines rounds ∷ [])
      ≡ cond d (suc (wins_since board other events)) (wins_since board other events) =
      wins_more board other 0 events (Grant by winner lines rounds)
      ∙ ap (λ t. cond t (suc (wins_since board other events)) (wins_since board other events)) e in
      subst (λ n. n ≤ allowed (is_served later board) (is_served later other)) (sym more)
      (subst (λ x.
      cond d (suc (wins_since board other events)) (wins_since board other events)
      ≤ allowed x (is_served later other)) (sym eb)
      (subst (λ x.
      cond d (suc (wins_since board other events)) (wins_since board other events) ≤ allowed b x) (sym eo) h))

  grant_fair :
      wins_since board other (events ++ Grant by winner lines rounds ∷ [])
      ≤ allowed (is_served later board) (is_served later other)
  grant_fair = go (does_any_wait served boards) refl (winner == other) refl
    where
      go :
          (w : Bool) → does_any_wait served boards ≡ w → (d : Bool) → (winner == other) ≡ d
          → wins_since board other (events ++ Grant by winner lines rounds ∷ [])
          ≤ allowed (is_served later board) (is_served later other)
      go true some true e =
          let same : winner ≡ other = eqb-true winner other e in
          let fresh : is_served served other ≡ false =
          ap (is_served served) (sym same) ∙ waiting_wins served boards winner some competes in
          let mark : is_served later other ≡ true = ap (is_served later) (sym same) ∙ marked in
          let own : is_served later board ≡ is_served served board =
          own_mark (is_served served board) (mark_is (is_served served board) true board some refl) in
          let before : wins_since board other events ≤ allowed (is_served served board) false =
          subst (λ x. wins_since board other events ≤ allowed (is_served served board) x) fresh old in
          bounded true (is_served served board) true e own mark
          (one_more_allowed (is_served served board) (wins_since board other events) before)
      go true some false e =
          let mark : is_served later other ≡ is_served served other =
          other_served marks winner other (eqb-false winner other e)
          ∙ mark_is (is_served served other) true other some refl in
          let own : is_served later board ≡ is_served served board =
          own_mark (is_served served board) (mark_is (is_served served board) true board some refl) in
          bounded false (is_served served board) (is_served served other) e own mark old
      go false none d e =
          let was : is_served served board ≡ true = none_waits served boards board none raised in
          let before : wins_since board other events ≤ allowed true (is_served served other) =
          subst (λ x. wins_since board other events ≤ allowed x (is_served served other)) was old in
          let few : wins_since board other events ≤ 1 = at_most (is_served served other) before in
          last d e few
        where
          own : is_served later board ≡ false
          own = own_mark false (mark_is false false board none (cleared served board))

          at_most : (o : Bool) → wins_since board other events ≤ allowed true o → wins_since board other events ≤ 1
          at_most true h = h
          at_most false h = omega (arith, h)

          last :
              (d : Bool) → (winner == other) ≡ d → wins_since board other events ≤ 1
              → wins_since board other (events ++ Grant by winner lines rounds ∷ [])
              ≤ allowed (is_served later board) (is_served later other)
          last true e few =
              let same : winner ≡ other = eqb-true winner other e in
              let mark : is_served later other ≡ true = ap (is_served later) (sym same) ∙ marked in
              bounded true false true e own mark (omega (arith, few))
          last false e few =
              let mark : is_served later other ≡ false =
              other_served marks winner other (eqb-false winner other e)
              ∙ mark_is false false other none (cleared served other) in
              bounded false false false e own mark few

-- ---- a step

-- An event that changes no mark and no win, and raises no request of the board, keeps fairness.
kept_fair :
    (events : List Event) (event : Event) (c next : Configuration) (board other : ℕ)
    → next.arbitration ≡ c.arbitration
    → (is_raised next.boards board ≡ true → is_raised c.boards board ≡ true)
    → wins_with board other (wins_since board other events) event ≡ wins_since board other events
    → FairSound events c.boards c.arbitration board other
    → FairSound (events ++ event ∷ []) next.boards next.arbitration board other
kept_fair events event c next board other same back wins old =
    subst (λ (a : Arbitration). FairSound (events ++ event ∷ []) next.boards a board other) (sym same)
    (go c.arbitration old)
  where
    go :
        (a : Arbitration) → FairSound events c.boards a board other
        → FairSound (events ++ event ∷ []) next.boards a board other
    go ByNumber h = tt
    go (Fair served) h = λ raised apart.
        subst (λ n. n ≤ allowed (is_served served board) (is_served served other))
        (sym (wins_more board other 0 events event ∙ wins)) (h (back raised) apart)

fair_raise :
    (events : List Event) (c : Configuration) (b board other : ℕ)
    → FairSound events c.boards c.arbitration board other
    → FairSound (events ++ Raise b ∷ []) (change_place (asking true) c.boards b) c.arbitration board other
fair_raise events c b board other old = go c.arbitration old (b == board) refl
  where
    go :
        (a : Arbitration) → FairSound events c.boards a board other → (d : Bool) → (b == board) ≡ d
        → FairSound (events ++ Raise b ∷ []) (change_place (asking true) c.boards b) a board other
    go ByNumber h d e = tt
    go (Fair served) h true e = λ raised apart.
        subst (λ n. n ≤ allowed (is_served served board) (is_served served other))
        (sym (wins_more board other 0 events (Raise b) ∙ ap (λ t. cond t 0 (wins_since board other events)) e))
        (least (allowed (is_served served board) (is_served served other)))
    go (Fair served) h false e = λ raised apart.
        subst (λ n. n ≤ allowed (is_served served board) (is_served served other))
        (sym (wins_more board other 0 events (Raise b) ∙ ap (λ t. cond t 0 (wins_since board other events)) e))
        (h (sym (ap (λ (p : Progress). p.raised) (progress-other (asking true) c.boards b board e)) ∙ raised) apart)

fair_grant :
    (setup : Setup) (events : List Event) (c : Configuration) (by winner lines rounds board other : ℕ)
    → length c.boards ≡ length setup.boards → ArbitrationFits setup c.arbitration
    → Wins setup c.arbitration c.boards winner lines rounds
    → FairSound events c.boards c.arbitration board other
    → FairSound (events ++ Grant by winner lines rounds ∷ []) (change_place (asking false) c.boards winner)
    (won_by winner c.boards c.arbitration) board other
fair_grant setup events c by winner lines rounds board other boards fits wins old =
    go c.arbitration fits wins.competes old (winner == board) refl
  where
    go :
        (a : Arbitration) → ArbitrationFits setup a → does_compete a c.boards winner ≡ true
        → FairSound events c.boards a board other → (d : Bool) → (winner == board) ≡ d
        → FairSound (events ++ Grant by winner lines rounds ∷ []) (change_place (asking false) c.boards winner)
        (won_by winner c.boards a) board other
    go ByNumber f k h d e = tt
    go (Fair served) f k h true e = λ raised apart.
        let same : winner ≡ board = eqb-true winner board e in
        let low : is_raised (change_place (asking false) c.boards winner) board ≡ false =
        ap (is_raised (change_place (asking false) c.boards winner)) (sym same) ∙ lowered c.boards winner in
        absurd (both_ways (is_raised (change_place (asking false) c.boards winner) board) low raised)
    go (Fair served) f k h false e = λ raised apart.
        let before : is_raised c.boards board ≡ true =
        sym (ap (λ (p : Progress). p.raised) (progress-other (asking false) c.boards winner board e)) ∙ raised in
        grant_fair setup events c.boards served (f.1 ∙ sym boards) by winner lines rounds k board other apart before
        (eqb-false winner board e) (h before apart)

pub fairness_step :
    (setup : Setup) (events : List Event) (c : Configuration) (event : Event) → PartsFit setup c → Can setup c event
    → ((board other : ℕ) → FairSound events c.boards c.arbitration board other) → (board other : ℕ)
    → FairSound (events ++ event ∷ []) (after c event).boards (after c event).arbitration board other
fairness_step setup events c (Local b before state done) parts can old board other =
    kept_fair events (Local b before state done) c (after c (Local b before state done)) board other
    (put_copy-arbitration c b (access_line done.access) state
    (written done.access (words_at c.rows b (access_line done.access)))) (back (b == board) refl) refl (old board other)
  where
    later : List Progress
    later =
        change_place spent (change_place completed (put_copy c b (access_line done.access) state
        (written done.access (words_at c.rows b (access_line done.access)))).boards b) b

    back :
        (d : Bool) → (b == board) ≡ d → is_raised (after c (Local b before state done)).boards board ≡ true
        → is_raised c.boards board ≡ true
    back true e h =
        let same : b ≡ board = eqb-true b board e in
        let low : is_raised (change_place (asking false) later b) board ≡ false =
        ap (is_raised (change_place (asking false) later b)) (sym same) ∙ lowered later b in
        absurd (both_ways (is_raised (change_place (asking false) later b) board) low h)
    back false e h = sym (others_unchanged setup c (Local b before state done) board can e).raised ∙ h
fairness_step setup events c (Drop b line before) parts can old board other =
    kept_fair events (Drop b line before) c (after c (Drop b line before)) board other refl (λ h. h) refl
    (old board other)
fairness_step setup events c (Raise b) parts can old board other = fair_raise events c b board other (old board other)
fairness_step setup events c (Grant by winner lines rounds) parts can old board other =
    fair_grant setup events c by winner lines rounds board other parts.boards parts.arbitration can.wins
    (old board other)
fairness_step setup events c (Connect t) parts can old board other =
    kept_fair events (Connect t) c (after c (Connect t)) board other refl
    (λ h. sym ((connected_course c.boards t.master t.answers).raised board) ∙ h) refl (old board other)
fairness_step setup events c (DataPhase e) parts can old board other =
    kept_fair events (DataPhase e) c (after c (DataPhase e)) board other (data-arbitration c e)
    (λ h. sym (data_raised c e board) ∙ h) refl (old board other)

-- ---- the opening

pub opening-arbitration : (setup : Setup) → ArbitrationFits setup (opening setup).arbitration
opening-arbitration setup = go setup.fair refl
  where
    go :
        (b : Bool) → setup.fair ≡ b
        → ArbitrationFits setup (cond b (Fair (map (λ (spec : BoardSpec). false) setup.boards)) ByNumber)
    go true e = (e, length-map setup.boards (λ spec. false))
    go false e = e

pub opening-fair :
    (setup : Setup) (board other : ℕ)
    → FairSound [] (opening setup).boards (opening setup).arbitration board other
opening-fair setup board other = go (opening setup).arbitration
  where
    go : (a : Arbitration) → FairSound [] (opening setup).boards a board other
    go ByNumber = tt
    go (Fair served) = λ raised apart. least (allowed (is_served served board) (is_served served other))

-- ---- the law

-- While a board stays raised in a fair setup, each other board wins at most two grants.
pub grants_are_fair :
    (setup : Setup) (events : List Event) (c : Configuration) → setup.fair ≡ true → Sound setup events c
    → GrantsAreFair events c.boards
grants_are_fair setup events c fair s board other raised apart =
    go c.arbitration s.parts.arbitration (s.fairness board other)
  where
    within : (b o : Bool) (n : ℕ) → n ≤ allowed b o → n ≤ 2
    within true true n h = omega (arith, h)
    within true false n h = omega (arith, h)
    within false true n h = omega (arith, h)
    within false false n h = omega (arith, h)

    go :
        (a : Arbitration) → ArbitrationFits setup a → FairSound events c.boards a board other
        → wins_since board other events ≤ 2
    go ByNumber f h = let no : true ≡ false = sym fair ∙ f in cc
    go (Fair served) f h =
        within (is_served served board) (is_served served other) (wins_since board other events) (h raised apart)
