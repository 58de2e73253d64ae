-- The transaction that is connected, and its data phase.
use Rattle.std.proofs.Common.{◌≡◌, ℕ, ◌*◌, ◌≤◌, length, Bool, true, false, cond, List, refl, ap, sym, subst, ◌∙◌, Option, Some, None}
use Rattle.std.specs.Prelude.{IsSome, is_some}
use Rattle.std.proofs.lemmas.Bool.{eqb-true, eq-eqb}
use Rattle.bus_signals.specs.declared.Access.{Access}
use Rattle.bus_model.specs.Setup.{Setup, WellFormed, AllInClass, access_count}
use Rattle.bus_model.specs.Entries.{entries, Legal}
use Rattle.bus_model.specs.Events.{Event, DataPhase, Transaction, Carried}
use Rattle.bus_model.specs.Configuration.{Configuration, Phase, Idle, Granted, Connected, present_access, is_connected}
use Rattle.bus_model.specs.Carrying.{carried_of}
use Rattle.bus_model.specs.Soundness.{Sound}
use Rattle.bus_model.specs.Steps.{Can}
use Rattle.bus_model.specs.Turns.{Did, own_transaction}
use Rattle.bus_model.proofs.TurnInParts.{in_parts}
use Rattle.bus_model.specs.TurnParts.{turn_for, access_turn}
use Rattle.coherence.proofs.Progress.{board_there}
use Rattle.coherence.proofs.Turns.{turns_are_steps}
use Rattle.coherence.proofs.Replies.{every_history_is_legal}
use Rattle.data_phase.specs.Seen.{carried_for}
use Rattle.backplane.specs.declared.parts.Parts.{Parts}
use Rattle.backplane.specs.Histories.{Histories}
use Rattle.backplane.specs.Machine.{Machine, IsBoard, MayHappen, configuration, configuration_after}
use Rattle.backplane.specs.Moves.{turn_of}
use Rattle.backplane.specs.Parts.{PartsShow, phase_of, connection_in}
use Rattle.backplane.specs.Standing.{Stands}
use Rattle.backplane.proofs.Filling.{connected-sound}
use Rattle.backplane.proofs.Stepping.{stands-sound, stands-bounded}

connected-by : (phase : Phase) (t : Transaction) → connection_in phase ≡ Some t → phase ≡ Connected t
connected-by Idle t e = cc
connected-by (Granted b) t e = cc
connected-by (Connected u) t e = let same : u ≡ t = cc in ap (λ (x : Transaction). Connected x) same

-- The transaction that the parts have is the one that is connected.
pub connection-is :
    (setup : Setup) (c : Configuration) (p : Parts) (t : Transaction) → PartsShow setup c p
    → connection_in (phase_of p.phase) ≡ Some t → c.phase ≡ Connected t
connection-is setup c p t s e = sym s.phase ∙ connected-by (phase_of p.phase) t e

pub no-connection :
    (setup : Setup) (c : Configuration) (p : Parts) (t : Transaction) → PartsShow setup c p
    → connection_in (phase_of p.phase) ≡ None → c.phase ≡ Connected t → ⊥
no-connection setup c p t s none is =
    let some : connection_in (phase_of p.phase) ≡ Some t = ap connection_in (s.phase ∙ is) in cc

-- The master of the transaction that is connected has an access to do.
pub master-present :
    (setup : Setup) (events : List Event) (c : Configuration) (t : Transaction) → Sound setup events c
    → c.phase ≡ Connected t → (access : Access) × (present_access setup c.boards t.master ≡ Some access)
master-present setup events c t sound is =
    let ts = connected-sound setup events c t sound is in (ts.purpose.0, ts.purpose.1)

-- It is one of the machine's boards.
pub master-board :
    (inside now : Machine) (events : List Event) (t : Transaction) → inside ≡ now → WellFormed inside.setup
    → Sound inside.setup events (configuration inside) → (configuration inside).phase ≡ Connected t
    → IsBoard now t.master
master-board inside now events t same well sound is =
    let present = master-present inside.setup events (configuration inside) t sound is in
    let there = board_there inside.setup (configuration inside).boards t.master present.0 well present.1 in
    subst (λ (m : Machine). IsBoard m t.master) same (record { low = there.low; high = there.high })

-- The data of the transaction that is connected may move.
pub data-can :
    (setup : Setup) (events : List Event) (c : Configuration) (t : Transaction) (e : Carried) → Sound setup events c
    → c.phase ≡ Connected t → e ≡ carried_of setup c t → Can setup c (DataPhase e)
data-can setup events c t e sound is same =
    let present = master-present setup events c t sound is in
    let some : IsSome (present_access setup c.boards t.master) = ap is_some present.1 in
    subst (λ (x : Carried). Can setup c (DataPhase x)) (sym same) (
      t,
      record {
        present = some;
        connected = is;
        master = refl;
        event = refl;
        line = refl;
        source = refl;
        takers = refl;
        states = refl;
        done = refl;
      },
    )

-- What was carried is the model's data phase.
pub carried-is :
    (inside now : Machine) (t : Transaction) (access : Option Access) (e : Carried) → inside ≡ now
    → access ≡ present_access now.setup (configuration now).boards t.master
    → e ≡ carried_for (configuration inside) t access
    → e ≡ carried_of inside.setup (configuration inside) t
carried-is inside now t access e same present is =
    is
    ∙ ap (λ (o : Option Access). carried_for (configuration inside) t o)
    (present ∙ ap (λ (m : Machine). present_access m.setup (configuration m).boards t.master) (sym same))

connected-of :
    (phase : Phase) (b : ℕ) → is_connected phase b ≡ true → (t : Transaction) × (phase ≡ Connected t) × (t.master ≡ b)
connected-of Idle b e = cc
connected-of (Granted g) b e = cc
connected-of (Connected t) b e = (t, refl, eqb-true t.master b e)

-- The transaction of a board that is connected, and its turn.
pub own-connection :
    (inside now : Machine) (p : Parts) (b : ℕ) → inside ≡ now → PartsShow inside.setup (configuration inside) p
    → is_connected (phase_of p.phase) b ≡ true
    → (t : Transaction) × ((configuration now).phase ≡ Connected t) × (t.master ≡ b)
own-connection inside now p b same s e =
    let at : is_connected (configuration now).phase b ≡ true =
    ap (λ (m : Machine). is_connected (configuration m).phase b) (sym same)
    ∙ ap (λ (q : Phase). is_connected q b) (sym s.phase) ∙ e in
    connected-of (configuration now).phase b at

pub not-connected :
    (inside now : Machine) (p : Parts) (b : ℕ) → inside ≡ now → PartsShow inside.setup (configuration inside) p
    → is_connected (phase_of p.phase) b ≡ false → is_connected (configuration now).phase b ≡ false
not-connected inside now p b same s e =
    ap (λ (m : Machine). is_connected (configuration m).phase b) (sym same)
    ∙ ap (λ (q : Phase). is_connected q b) (sym s.phase) ∙ e

own-is :
    (phase : Phase) (t : Transaction) (b : ℕ) → phase ≡ Connected t → t.master ≡ b → own_transaction phase b ≡ Some t
own-is phase t b is same =
    ap (λ (q : Phase). own_transaction q b) is ∙ ap (λ (d : Bool). cond d (Some t) None) (eq-eqb t.master b same)

-- What is known of every machine, seen from outside.
pub record Known (m : Machine) : Type 0 where
  pub fits : WellFormed m.setup
  pub accepted : AllInClass m.setup
  pub sound : Sound m.setup m.journal (configuration m)

pub known-of :
    (setup : Setup) (events : List Event) (capacity : ℕ) (p : Parts) (h : Histories) (now : Machine)
    → Stands setup events capacity p h → record { setup = setup; journal = events } ≡ now → Known now
known-of setup events capacity p h now stands same =
    subst Known same (record {
      fits = stands.fits;
      accepted = stands.accepted;
      sound = stands-sound setup events capacity p h stands;
    })

-- The turn of a board that is connected moves the data.
pub connected-turn :
    (m : Machine) (t : Transaction) (b : ℕ) → Known m → (configuration m).phase ≡ Connected t → t.master ≡ b
    → turn_of m b ≡ Did (DataPhase (carried_of m.setup (configuration m) t))
connected-turn m t b known is same =
    let present = master-present m.setup m.journal (configuration m) t known.sound is in
    let at : present_access m.setup (configuration m).boards b ≡ Some present.0 =
    ap (λ (x : ℕ). present_access m.setup (configuration m).boards x) (sym same) ∙ present.1 in
    in_parts m.setup (configuration m) b
    ∙ ap (turn_for m.setup (configuration m) b) at
    ∙ ap (access_turn m.setup (configuration m) b present.0) (own-is (configuration m).phase t b is same)

-- What a turn does may happen.
pub turn-step : (m : Machine) (b : ℕ) (event : Event) → Known m → turn_of m b ≡ Did event → MayHappen m event
turn-step m b event known e =
    turns_are_steps m.setup m.journal (configuration m) b event known.fits known.accepted known.sound e

pub legal-of :
    (setup : Setup) (events : List Event) (capacity : ℕ) (p : Parts) (h : Histories) (now : Machine)
    → Stands setup events capacity p h → record { setup = setup; journal = events } ≡ now
    → Legal now.setup.memory (entries now.journal)
legal-of setup events capacity p h now stands same =
    subst (λ (m : Machine). Legal m.setup.memory (entries m.journal)) same
    (every_history_is_legal setup events (configuration_after setup events) stands.fits stands.accepted stands.run)

pub bounded-of :
    (setup : Setup) (events : List Event) (capacity : ℕ) (p : Parts) (h : Histories) (now : Machine)
    → Stands setup events capacity p h → record { setup = setup; journal = events } ≡ now
    → length now.journal ≤ 8 * access_count now.setup
bounded-of setup events capacity p h now stands same =
    subst (λ (m : Machine). length m.journal ≤ 8 * access_count m.setup) same
    (stands-bounded setup events capacity p h stands)
