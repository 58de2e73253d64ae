-- Turns of a machine, one after another.
use Rattle.std.proofs.lemmas.List.{take_all}
use Rattle.std.proofs.Common.{arith, suc, take, zero, ◌<◌, List, [], ap, append-nil, append_assoc, false, length, length-append, refl, sym, true, ℕ, ◌+◌, ◌++◌, ◌∙◌, ◌∷◌, ◌≡◌, ◌≤◌, inl, inr, ◌⊎◌}
use Rattle.std.specs.Prelude.{IsSome, is_some}
use Rattle.std.proofs.lemmas.Bool.{eq-eqb}
use Rattle.bus_model.specs.Configuration.{Configuration, Connected, Granted, Idle, Phase, is_connected, is_granted, opening, present_access}
use Rattle.bus_model.specs.Events.{Event}
use Rattle.bus_model.specs.Runs.{Complete, after_all}
use Rattle.bus_model.specs.Setup.{BoardSpec, Setup, WellFormed, board_places}
use Rattle.bus_model.specs.Places.{places_from}
use Rattle.bus_model.specs.Soundness.{Sound}
use Rattle.bus_model.specs.Steps.{after}
use Rattle.bus_model.specs.Turns.{Did, Finished, Turn, Waits, events_of_turns, turn}
use Rattle.coherence.proofs.Rounds.{AllDone, done_or_not, rounds_go_on, turns-append}
use Rattle.backplane.specs.declared.moved.Moved.{Moved}
use Rattle.backplane.specs.Machine.{Machine, configuration}
use Rattle.backplane.specs.Moves.{after_turns, events_told, moved, told, turn_of}

after_more : (c : Configuration) (xs ys : List Event) → after_all c (xs ++ ys) ≡ after_all (after_all c xs) ys
after_more c [] ys = refl
after_more c (x ∷ xs) ys = after_more (after c x) xs ys

-- No turn changes nothing.
pub no_turns : (m : Machine) → after_turns m [] ≡ m
no_turns m = let e = append-nil m.journal in λ i. record { setup = m.setup; journal = e i }

-- The configuration after turns is that after their events.
pub turned_configuration :
    (m : Machine) (xs : List ℕ)
    → configuration (after_turns m xs) ≡ after_all (configuration m) (events_of_turns m.setup (configuration m) xs)
turned_configuration m xs = after_more (opening m.setup) m.journal (events_of_turns m.setup (configuration m) xs)

-- Turns after turns.
pub more_turns : (m : Machine) (xs ys : List ℕ) → after_turns m (xs ++ ys) ≡ after_turns (after_turns m xs) ys
more_turns m xs ys =
    let first = events_of_turns m.setup (configuration m) xs in
    let e : m.journal ++ events_of_turns m.setup (configuration m) (xs ++ ys)
    ≡ (m.journal ++ first) ++ events_of_turns m.setup (configuration (after_turns m xs)) ys =
    ap (λ es. m.journal ++ es) (turns-append m.setup (configuration m) xs ys)
    ∙ sym (append_assoc m.journal first (events_of_turns m.setup (after_all (configuration m) first) ys))
    ∙ ap (λ c. (m.journal ++ first) ++ events_of_turns m.setup c ys) (sym (turned_configuration m xs)) in
    λ i. record { setup = m.setup; journal = e i }

-- How many events a turn does.
abbrev pub done_by : Turn → ℕ
done_by (Did event) = 1
done_by (Waits why) = 0
done_by Finished = 0

-- The events of one turn.
abbrev events_by : Turn → List Event
events_by (Did event) = event ∷ []
events_by (Waits why) = []
events_by Finished = []

one_event :
    (setup : Setup) (c : Configuration) (board : ℕ)
    → events_of_turns setup c (board ∷ []) ≡ events_by (turn setup c board)
one_event setup c board = go (turn setup c board)
  where
    go : (t : Turn) → elim t [ Did event ↦ event ∷ [] | Waits why ↦ [] | Finished ↦ [] ] ≡ events_by t
    go (Did event) = refl
    go (Waits why) = refl
    go Finished = refl

-- One turn.
pub one_turn : (m : Machine) (board : ℕ) → after_turns m (board ∷ []) ≡ moved m (turn_of m board)
one_turn m board =
    (let e = ap (λ es. m.journal ++ es) (one_event m.setup (configuration m) board) in
    λ i. record { setup = m.setup; journal = e i }) ∙ go (turn_of m board)
  where
    go : (t : Turn) → record { setup = m.setup; journal = m.journal ++ events_by t } ≡ moved m t
    go (Did event) = refl
    go (Waits why) = no_turns m
    go Finished = no_turns m

-- A turn after turns.
pub next_turn :
    (m : Machine) (xs : List ℕ) (board : ℕ)
    → after_turns m (xs ++ board ∷ []) ≡ moved (after_turns m xs) (turn_of (after_turns m xs) board)
next_turn m xs board = more_turns m xs (board ∷ []) ∙ one_turn (after_turns m xs) board

-- The events of a turn after turns.
pub next_count :
    (m : Machine) (xs : List ℕ) (board : ℕ)
    → length (events_of_turns m.setup (configuration m) (xs ++ board ∷ []))
    ≡ length (events_of_turns m.setup (configuration m) xs) + done_by (turn_of (after_turns m xs) board)
next_count m xs board =
    let first = events_of_turns m.setup (configuration m) xs in
    ap length (turns-append m.setup (configuration m) xs (board ∷ [])
    ∙ ap (λ c. first ++ events_of_turns m.setup c (board ∷ [])) (sym (turned_configuration m xs))
    ∙ ap (λ es. first ++ es) (one_event m.setup (configuration (after_turns m xs)) board))
    ∙ length-append first (events_by (turn_of (after_turns m xs) board))
    ∙ ap (λ n. length first + n) (go (turn_of (after_turns m xs) board))
  where
    go : (t : Turn) → length (events_by t) ≡ done_by t
    go (Did event) = refl
    go (Waits why) = refl
    go Finished = refl

-- Where every board has done all its accesses the run is complete.
pub complete_then :
    (setup : Setup) (events : List Event) (c : Configuration) → Sound setup events c → AllDone setup c
    → Complete setup c
complete_then setup events c sound done = record { scripts = done; idle = go c.phase refl }
  where
    none : (board : ℕ) → IsSome (present_access setup c.boards board) → ⊥
    none board h = let e : false ≡ true = sym (ap is_some (done board)) ∙ h in cc

    go : (phase : Phase) → c.phase ≡ phase → phase ≡ Idle
    go Idle e = refl
    go (Granted b) e =
        absurd (none b ((sound.requests b).granted (ap (λ phase. is_granted phase b) e ∙ eq-eqb b b refl)))
    go (Connected t) e =
        absurd (none t.master ((sound.requests t.master).connected
        (ap (λ phase. is_connected phase t.master) e ∙ eq-eqb t.master t.master refl)))

-- While a run is not complete a round has an event.
pub round_goes_on :
    (setup : Setup) (events : List Event) (c : Configuration) → WellFormed setup → Sound setup events c
    → (Complete setup c → ⊥) → 1 ≤ length (events_of_turns setup c (board_places setup))
round_goes_on setup events c well sound unfinished = go (done_or_not setup c well)
  where
    go :
        AllDone setup c ⊎ ((board : ℕ) × IsSome (present_access setup c.boards board))
        → 1 ≤ length (events_of_turns setup c (board_places setup))
    go (inl done) = absurd (unfinished (complete_then setup events c sound done))
    go (inr r) = rounds_go_on setup events c r.0 well sound r.1

-- The reported result of a turn counts its events.
pub told_count : (t : Turn) → events_told (told t) ≡ done_by t
told_count (Did event) = refl
told_count (Waits why) = refl
told_count Finished = refl

pub told_few : (moved : Moved) → events_told moved ≤ 1
told_few Moved.Did = omega arith
told_few (Moved.Waits why) = omega arith
told_few Moved.Finished = omega arith

next_place :
    (k n : ℕ) (specs : List BoardSpec) → n < length specs
    → take (suc n) (places_from k specs) ≡ take n (places_from k specs) ++ (k + n) ∷ []
next_place k n [] h = absurd (omega arith)
next_place k zero (s ∷ specs) h = let same : k ≡ k + 0 = omega arith in ap (λ m. m ∷ []) same
next_place k (suc n) (s ∷ specs) h =
    let same : suc k + n ≡ k + suc n = omega arith in
    ap (λ places. k ∷ places)
    (next_place (suc k) n specs (omega arith) ∙ ap (λ m. take n (places_from (suc k) specs) ++ m ∷ []) same)

-- The next board of a round.
pub next_in_round :
    (setup : Setup) (place : ℕ) → place < length setup.boards
    → take (place + 1) (board_places setup) ≡ take place (board_places setup) ++ (place + 1) ∷ []
next_in_round setup place h =
    let more : place + 1 ≡ suc place = omega arith in
    let board : 1 + place ≡ place + 1 = omega arith in
    ap (λ n. take n (board_places setup)) more ∙ next_place 1 place setup.boards h
    ∙ ap (λ m. take place (board_places setup) ++ m ∷ []) board

places_length : (k : ℕ) (specs : List BoardSpec) → length (places_from k specs) ≡ length specs
places_length k [] = refl
places_length k (s ∷ specs) = ap suc (places_length (suc k) specs)

-- All boards of a round.
pub whole_round :
    (setup : Setup) (place : ℕ) → length setup.boards ≤ place → take place (board_places setup) ≡ board_places setup
whole_round setup place h =
    let long = places_length 1 setup.boards in take_all place (board_places setup) (omega (arith, long))
