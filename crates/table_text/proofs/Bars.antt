-- The bars of a line.
use Rattle.std.proofs.Common.{◌≡◌, ℕ, suc, ◌<◌, ◌+◌, ◌⊎◌, inl, inr, Bool, true, false, cond, List, [], ◌∷◌, ◌++◌, length, Option, Some, None, refl, sym, ap, subst, ◌∙◌, arith, not}
use Rattle.std.specs.Prelude.{codes}
use Rattle.std.specs.Str.{bytes_eq}
use Rattle.fb_text.specs.Places.{Words}
use Rattle.fb_text.proofs.LineItems.{split_append, SplitsBehind}
use Rattle.moesi_state.specs.declared.State.{State}
use Rattle.moesi_state.specs.declared.State.TheVariants.{M, O, E, S, I}
use Rattle.bus_signals.specs.declared.LocalEvent.{LocalEvent}
use Rattle.bus_signals.specs.declared.BusEvent.{BusEvent}
use Rattle.moesi_state.specs.declared.Outcome.{Outcome}
use Rattle.moesi_state.specs.declared.Outcome.TheVariants.{Fixed, OnHit}
use Rattle.class_relation.specs.declared.LocalAction.{LocalAction}
use Rattle.class_relation.specs.declared.SnoopAction.{SnoopAction}
use Rattle.class_words.specs.Words.{state_word, local_event_word, bus_event_word, outcome_word}
use Rattle.table_text.specs.Spelling.{bar, bars, bus_words, local_words, signal_words, snoop_words, alternative_words}
use Rattle.bus_signals.proofs.Events.{each_bus, each_local}
use Rattle.std.proofs.lemmas.Bool.{not-true}

pub bars_append : (a b : Words) → bars (a ++ b) ≡ bars a + bars b
bars_append [] b = omega arith
bars_append (w ∷ a) b = omega (arith, bars_append a b)

pub state_no_bar : (s : State) → bytes_eq (state_word s) bar ≡ false
state_no_bar M = refl
state_no_bar O = refl
state_no_bar E = refl
state_no_bar S = refl
state_no_bar I = refl

pub local_event_no_bar : (e : LocalEvent) → bytes_eq (local_event_word e) bar ≡ false
local_event_no_bar e =
    not-true (bytes_eq (local_event_word e) bar) (each_local (λ e. not (bytes_eq (local_event_word e) bar)) refl e)

pub bus_event_no_bar : (b : BusEvent) → bytes_eq (bus_event_word b) bar ≡ false
bus_event_no_bar b =
    not-true (bytes_eq (bus_event_word b) bar) (each_bus (λ b. not (bytes_eq (bus_event_word b) bar)) refl b)

outcome_no_bar : (o : Outcome) → bytes_eq (outcome_word o) bar ≡ false
outcome_no_bar (Fixed s) = state_no_bar s
outcome_no_bar (OnHit M t) = refl
outcome_no_bar (OnHit O t) = refl
outcome_no_bar (OnHit E t) = refl
outcome_no_bar (OnHit S t) = refl
outcome_no_bar (OnHit I t) = refl

-- an alternative has no bar
pub local_bars : (a : LocalAction) → bars (local_words a) ≡ 0
local_bars a = rw (outcome_no_bar a.result) (bus a.bus)
  where
    bus : (b : Option BusEvent) → 0 + bars (bus_words b) ≡ 0
    bus None = refl
    bus (Some e) = rw (bus_event_no_bar e) refl

signals :
    (ch di sl : Bool)
    → bars (signal_words ch (codes "CH") ++ signal_words di (codes "DI") ++ signal_words sl (codes "SL")) ≡ 0
signals true true true = refl
signals true true false = refl
signals true false true = refl
signals true false false = refl
signals false true true = refl
signals false true false = refl
signals false false true = refl
signals false false false = refl

pub snoop_bars : (a : SnoopAction) → bars (snoop_words a) ≡ 0
snoop_bars a = rw (state_no_bar a.result) (omega (arith, signals a.response.ch a.response.di a.response.sl))

-- between the alternatives there is one bar fewer than there are alternatives
pub alternatives_bars :
    {A : Type 0} (f : A → Words) → ((a : A) → bars (f a) ≡ 0) → (alts : List A) → 0 < length alts
    → bars (alternative_words f alts) < length alts
alternatives_bars f none [] some = absurd (omega arith)
alternatives_bars f none (a ∷ []) some = omega (arith, none a)
alternatives_bars f none (a ∷ b ∷ more) some =
    let rest = alternatives_bars f none (b ∷ more) (omega arith) in
    omega
    (arith, none a, bars_append (f a) (bar ∷ alternative_words f (b ∷ more)), one (alternative_words f (b ∷ more)))
  where
    one : (ws : Words) → bars (bar ∷ ws) ≡ 1 + bars ws
    one ws = refl

-- ---- fewer than so many bars come before any word

abbrev pub FewBars : ℕ → Words → Type 0
FewBars n front = (p : Words) (w : List ℕ) (q : Words) → front ≡ p ++ w ∷ q → bars p < n

pub few_total : (n : ℕ) (l : Words) → bars l < n → FewBars n l
few_total n l lt p w q e = omega (arith, ap bars e ∙ bars_append p (w ∷ q))

pub few_nil : (n : ℕ) → FewBars n []
few_nil n [] w q e = absurd cc
few_nil n (x ∷ p) w q e = absurd cc

pub few_cons :
    (n : ℕ) (v : List ℕ) (front : Words) → bytes_eq v bar ≡ false → 0 < n → FewBars n front → FewBars n (v ∷ front)
few_cons n v front nobar lt few [] w q e = lt
few_cons n v front nobar lt few (u ∷ p) w q e =
    let rest : front ≡ p ++ w ∷ q = cc in
    let same : v ≡ u = cc in
    let h : bars p < n = few p w q rest in
    subst (λ (x : List ℕ). (cond (bytes_eq x bar) 1 0 + bars p) < n) same (rw nobar (omega arith))

pub few_behind : (n : ℕ) (x front : Words) → bars x ≡ 0 → FewBars n front → FewBars (suc n) (x ++ bar ∷ front)
few_behind n x front none few p w q e = go (split_append x (bar ∷ front) p w q e)
  where
    behind : (r : Words) → bar ∷ front ≡ r ++ w ∷ q → bars (x ++ r) < suc n
    behind [] k = omega (arith, bars_append x [], none)
    behind (y ∷ r) k =
        let rest : front ≡ r ++ w ∷ q = cc in
        let same : bar ≡ y = cc in
        let h : bars r < n = few r w q rest in
        subst (λ (z : List ℕ). bars (x ++ z ∷ r) < suc n) same (omega (arith, bars_append x (bar ∷ r), none, one r))
      where
        one : (ws : Words) → bars (bar ∷ ws) ≡ 1 + bars ws
        one ws = refl

    go : ((more : Words) × (x ≡ p ++ w ∷ more)) ⊎ SplitsBehind x (bar ∷ front) p w q → bars p < suc n
    go (inl h) = omega (arith, ap bars h.1 ∙ bars_append p (w ∷ h.0), none)
    go (inr s) = subst (λ (z : Words). bars z < suc n) (sym s.before) (behind s.front s.rest)
