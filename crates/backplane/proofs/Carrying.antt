-- The facts of a data phase together mean that it may happen.
use Rattle.std.proofs.Common.{Bool, Option, [], ap, refl, subst, sym, true, ℕ, ◌∙◌, ◌∷◌, ◌≡◌}
use Rattle.std.proofs.lemmas.Option.{same_Some}
use Rattle.std.specs.Prelude.{IsSome, is_some, ◌↔◌}
use Rattle.bus_signals.specs.declared.Access.{Access}
use Rattle.bus_model.specs.Setup.{Setup}
use Rattle.bus_model.specs.Events.{Board, Carried, Done, Memory, Nobody, Source, Takers, Transaction}
use Rattle.bus_model.specs.Configuration.{Configuration, Connected, present_access}
use Rattle.bus_model.specs.Carrying.{carried_of, done_of, source_of, source_words}
use Rattle.bus_model.specs.Steps.{CanData}
use Rattle.data_phase.specs.Seen.{carried_for, seen}
use Rattle.backplane.specs.declared.parts.Parts.{Parts}
use Rattle.backplane.specs.Parts.{PartsShow, connection_in}
use Rattle.backplane.proofs.Deciding.{all_of, itself, none_left, one_more}

pub takers_told :
    (a b : Takers) (memory boards : Bool) → ((memory ≡ true) ↔ (a.memory ≡ b.memory))
    → ((boards ≡ true) ↔ (a.boards ≡ b.boards)) → (all_of (memory ∷ boards ∷ []) ≡ true) ↔ (a ≡ b)
takers_told a b memory boards m p = (
  λ h. let f = facts.0 h in let x = f.0 in let y = f.1.0 in λ i. record { memory = x i; boards = y i },
  λ e. facts.1 (ap (λ (t : Takers). t.memory) e, (ap (λ (t : Takers). t.boards) e, tt)),
)
  where
    facts : (all_of (memory ∷ boards ∷ []) ≡ true) ↔ ((a.memory ≡ b.memory) × ((a.boards ≡ b.boards) × Unit {0}))
    facts = one_more memory (boards ∷ []) _ _ m (one_more boards [] _ _ p none_left)

pub carried_told : (a b : Carried) (master event line source takers states done : Bool)
    → ((master ≡ true) ↔ (a.master ≡ b.master)) → ((event ≡ true) ↔ (a.event ≡ b.event))
    → ((line ≡ true) ↔ (a.line ≡ b.line)) → ((source ≡ true) ↔ (a.source ≡ b.source))
    → ((takers ≡ true) ↔ (a.takers ≡ b.takers)) → ((states ≡ true) ↔ (a.states ≡ b.states))
    → ((done ≡ true) ↔ (a.done ≡ b.done))
    → (all_of (master ∷ event ∷ line ∷ source ∷ takers ∷ states ∷ done ∷ []) ≡ true) ↔ (a ≡ b)
carried_told a b master event line source takers states done m e l s t st d =
    (λ h. build (facts.0 h), λ p. facts.1 (parts p))
  where
    Facts : Type 0
    Facts =
        (a.master ≡ b.master)
        × ((a.event ≡ b.event)
        × ((a.line ≡ b.line)
        × ((a.source ≡ b.source)
        × ((a.takers ≡ b.takers) × ((a.states ≡ b.states) × ((a.done ≡ b.done) × Unit {0}))))))

    facts : (all_of (master ∷ event ∷ line ∷ source ∷ takers ∷ states ∷ done ∷ []) ≡ true) ↔ Facts
    facts =
        one_more master (event ∷ line ∷ source ∷ takers ∷ states ∷ done ∷ []) _ _ m
        (one_more event (line ∷ source ∷ takers ∷ states ∷ done ∷ []) _ _ e
        (one_more line (source ∷ takers ∷ states ∷ done ∷ []) _ _ l
        (one_more source (takers ∷ states ∷ done ∷ []) _ _ s
        (one_more takers (states ∷ done ∷ []) _ _ t
        (one_more states (done ∷ []) _ _ st
        (one_more done [] _ _ d none_left))))))

    build : Facts → a ≡ b
    build f =
        let m = f.0 in
        let e = f.1.0 in
        let l = f.1.1.0 in
        let s = f.1.1.1.0 in
        let t = f.1.1.1.1.0 in
        let st = f.1.1.1.1.1.0 in
        let d = f.1.1.1.1.1.1.0 in
        λ i. record { master = m i; event = e i; line = l i; source = s i; takers = t i; states = st i; done = d i }

    parts : a ≡ b → Facts
    parts p = (
      ap (λ (x : Carried). x.master) p,
      (
        ap (λ (x : Carried). x.event) p,
        (
          ap (λ (x : Carried). x.line) p,
          (
            ap (λ (x : Carried). x.source) p,
            (
              ap (λ (x : Carried). x.takers) p,
              (ap (λ (x : Carried). x.states) p, (ap (λ (x : Carried). x.done) p, tt)),
            ),
          ),
        ),
      ),
    )

words_seen :
    (setup : Setup) (c : Configuration) (parts : Parts) → PartsShow setup c parts → (master line : ℕ) (source : Source)
    → source_words (seen parts.rack parts.memory) master line source ≡ source_words c master line source
words_seen setup c parts shows master line Nobody =
    λ i. source_words (record c { rows = shows.rack.rows i }) master line Nobody
words_seen setup c parts shows master line Memory =
    λ i. source_words (record c { memory = shows.memory i }) master line Memory
words_seen setup c parts shows master line (Board board) =
    λ i. source_words (record c { rows = shows.rack.rows i }) master line (Board board)

-- The data phase that the transaction must have, by the parts.
carried_seen :
    (setup : Setup) (c : Configuration) (parts : Parts) → PartsShow setup c parts
    → (t : Transaction) (access : Option Access) → access ≡ present_access setup c.boards t.master
    → carried_for (seen parts.rack parts.memory) t access ≡ carried_of setup c t
carried_seen setup c parts shows t access e =
    let words = words_seen setup c parts shows t.master t.line (source_of t.event t.answers) in
    let with_done : Option Done → Carried = λ d. record (carried_of setup c t) { done = d } in
    ap with_done (λ i. done_of (e i) t.line (words i))

connected_once : (t u : Transaction) → Connected t ≡ Connected u → t ≡ u
connected_once t u e = same_Some t u (ap connection_in e)

-- A data phase may happen exactly where it is what the model says.
pub only_one :
    (setup : Setup) (c : Configuration) (t : Transaction) (e : Carried) → c.phase ≡ Connected t
    → (IsSome (present_access setup c.boards t.master) × (e ≡ carried_of setup c t))
    ↔ ((u : Transaction) × CanData setup c e u)
only_one setup c t e phase = (λ p. (t, subst (λ x. CanData setup c x t) (sym p.1) (own p.0)), back)
  where
    own : IsSome (present_access setup c.boards t.master) → CanData setup c (carried_of setup c t) t
    own some =
        record {
          present = some;
          connected = phase;
          master = refl;
          event = refl;
          line = refl;
          source = refl;
          takers = refl;
          states = refl;
          done = refl;
        }

    at : CanData setup c e t → IsSome (present_access setup c.boards t.master) × (e ≡ carried_of setup c t)
    at can =
        let m = can.master in
        let v = can.event in
        let l = can.line in
        let s = can.source in
        let k = can.takers in
        let st = can.states in
        let d =
        can.done ∙ (λ i. done_of (present_access setup c.boards (m i)) (l i) (source_words c (m i) (l i) (s i))) in (
          subst (λ b. IsSome (present_access setup c.boards b)) m can.present,
          λ i. record { master = m i; event = v i; line = l i; source = s i; takers = k i; states = st i; done = d i },
        )

    back :
        (u : Transaction) × CanData setup c e u
        → IsSome (present_access setup c.boards t.master) × (e ≡ carried_of setup c t)
    back r =
        let same : r.0 ≡ t = connected_once r.0 t (sym r.1.connected ∙ phase) in
        at (subst (CanData setup c e) same r.1)

pub data_told :
    (setup : Setup) (c : Configuration) (parts : Parts) → PartsShow setup c parts
    → (t : Transaction) (access : Option Access) (e : Carried) (there same : Bool)
    → c.phase ≡ Connected t → access ≡ present_access setup c.boards t.master
    → there ≡ is_some access → ((same ≡ true) ↔ (e ≡ carried_for (seen parts.rack parts.memory) t access))
    → (all_of (there ∷ same ∷ []) ≡ true) ↔ ((u : Transaction) × CanData setup c e u)
data_told setup c parts shows t access e there same phase present some equal =
    (λ h. one.0 (forward (facts.0 h)), λ r. facts.1 (backward (one.1 r)))
  where
    one :
        (IsSome (present_access setup c.boards t.master) × (e ≡ carried_of setup c t))
        ↔ ((u : Transaction) × CanData setup c e u)
    one = only_one setup c t e phase

    seen_is : carried_for (seen parts.rack parts.memory) t access ≡ carried_of setup c t
    seen_is = carried_seen setup c parts shows t access present

    facts :
        (all_of (there ∷ same ∷ []) ≡ true)
        ↔ ((is_some access ≡ true) × ((e ≡ carried_for (seen parts.rack parts.memory) t access) × Unit {0}))
    facts = one_more there (same ∷ []) _ _ (itself there _ some) (one_more same [] _ _ equal none_left)

    forward :
        (is_some access ≡ true) × ((e ≡ carried_for (seen parts.rack parts.memory) t access) × Unit {0})
        → IsSome (present_access setup c.boards t.master) × (e ≡ carried_of setup c t)
    forward f = (ap is_some (sym present) ∙ f.0, f.1.0 ∙ seen_is)

    backward :
        IsSome (present_access setup c.boards t.master) × (e ≡ carried_of setup c t)
        → (is_some access ≡ true) × ((e ≡ carried_for (seen parts.rack parts.memory) t access) × Unit {0})
    backward p = (ap is_some present ∙ p.0, (p.1 ∙ sym seen_is, tt))
