-- Turns one after another, and rounds until every script is at its end.
use Rattle.std.proofs.Common.{◌≡◌, ℕ, zero, suc, ◌+◌, ◌-◌, ◌*◌, ◌<◌, ◌≤◌, drop, List, [], ◌∷◌, ◌++◌, length, refl, sym, ap, ◌∙◌, subst, arith, append_assoc, append-nil, add-one}
use Rattle.std.proofs.lemmas.List.{length-append}
use Rattle.std.specs.List.{AllByRecursion}
use Rattle.bus_model.specs.Places.{repeated}
use Rattle.bus_model.specs.Setup.{Setup, access_count, board_places}
use Rattle.bus_model.specs.Events.{Event}
use Rattle.bus_model.specs.Configuration.{opening}
use Rattle.bus_model.specs.Runs.{Complete, after_all}
use Rattle.bus_model.specs.Turns.{events_of_turns, played}
use Rattle.coherence.proofs.Rounds.{all_done_stays}
use Rattle.backplane.specs.Machine.{IsBoard, Machine, configuration}
use Rattle.backplane.specs.Moves.{after_turns, moved, turn_of}
use Rattle.backplane.proofs.Turning.{more_turns, one_turn}
use Rattle.player.specs.Rounds.{AfterRounds}

repeated-more : {X : Type 0} (n m : ℕ) (xs : List X) → repeated (n + m) xs ≡ repeated n xs ++ repeated m xs
repeated-more zero m xs = let none : zero + m ≡ m = omega arith in ap (λ (n : ℕ). repeated n xs) none
repeated-more (suc n) m xs =
    let more : suc n + m ≡ suc (n + m) = omega arith in
    ap (λ (k : ℕ). repeated k xs) more ∙ ap (λ (t : List _). xs ++ t) (repeated-more n m xs)
    ∙ sym (append_assoc xs (repeated n xs) (repeated m xs))

-- Turns of a machine whose scripts are at their ends do nothing.
at_end :
    (machine : Machine) (boards : List ℕ) → Complete machine.setup (configuration machine)
    → after_turns machine boards ≡ machine
at_end machine boards complete =
    let none = all_done_stays machine.setup (configuration machine) boards complete.scripts in
    λ i.
    record {
      setup = machine.setup;
      journal = (ap (λ (es : List Event). machine.journal ++ es) none ∙ append-nil machine.journal) i;
    }

-- One more round.
pub one_more :
    (before now next : Machine) → AfterRounds before now → next ≡ after_turns now (board_places now.setup)
    → length now.journal + 1 ≤ length next.journal → AfterRounds before next
one_more before now next so round more =
    let same : now.setup ≡ before.setup = ap (λ (m : Machine). m.setup) so.machine in
    record {
      rounds = so.rounds + 1;
      machine =
          round
          ∙ ap (λ (s : Setup). after_turns now (board_places s)) same
          ∙ ap (λ (m : Machine). after_turns m (board_places before.setup)) so.machine
          ∙ sym (more_turns before (repeated so.rounds (board_places before.setup)) (board_places before.setup))
          ∙ ap (after_turns before)
          (sym (repeated-more so.rounds 1 (board_places before.setup)
          ∙ ap (λ (t : List ℕ). repeated so.rounds (board_places before.setup) ++ t)
          (append-nil (board_places before.setup))));
      each = let e = so.each in omega (arith, e, more);
    }

-- Where every script is at its end, more rounds change nothing.
pub all_rounds :
    (before now : Machine) → AfterRounds before now → Complete now.setup (configuration now)
    → length now.journal ≤ 8 * access_count before.setup
    → (rounds : ℕ) → 8 * access_count before.setup ≤ rounds
    → now ≡ after_turns before (repeated rounds (board_places before.setup))
all_rounds before now so complete bounded rounds enough =
    let places = board_places before.setup in
    let e = so.each in
    let left : so.rounds + (rounds - so.rounds) ≡ rounds = omega (arith, e, bounded, enough) in
    sym (at_end now (repeated (rounds - so.rounds) places) complete)
    ∙ ap (λ (m : Machine). after_turns m (repeated (rounds - so.rounds) places)) so.machine
    ∙ sym (more_turns before (repeated so.rounds places) (repeated (rounds - so.rounds) places))
    ∙ ap (after_turns before)
    (sym (repeated-more so.rounds (rounds - so.rounds) places) ∙ ap (λ (n : ℕ). repeated n places) left)

-- Playing is a schedule and then rounds.
pub whole : (opened mid last : Machine) (schedule : List ℕ) → opened.journal ≡ [] → mid ≡ after_turns opened schedule
    → last ≡ after_turns mid (repeated (8 * access_count mid.setup) (board_places mid.setup))
    → last ≡ record { setup = opened.setup; journal = played opened.setup schedule }
whole opened mid last schedule empty first rest =
    let same : mid.setup ≡ opened.setup = ap (λ (m : Machine). m.setup) first in
    let n = 8 * access_count opened.setup in
    let places = repeated n (board_places opened.setup) in
    rest
    ∙ ap (λ (s : Setup). after_turns mid (repeated (8 * access_count s) (board_places s))) same
    ∙ ap (λ (m : Machine). after_turns m places) first
    ∙ sym (more_turns opened schedule places)
    ∙ ap (λ (j : List Event).
    record {
      setup = opened.setup;
      journal = j ++ events_of_turns opened.setup (after_all (opening opened.setup) j) (schedule ++ places);
    })
    empty

-- What holds of the elements from one on holds of those after it.
pub others :
    {X : Type 0} (P : X → Type 0) (xs : List X) (i : ℕ) → i < length xs → AllByRecursion P (drop i xs)
    → AllByRecursion P (drop (i + 1) xs)
others P [] i less h = absurd (omega (arith, less))
others P (x ∷ xs) zero less h = h.1
others P (x ∷ xs) (suc i) less h =
    let next : suc i + 1 ≡ suc (i + 1) = omega arith in
    rw next (others P xs i (omega (arith, less)) h)

-- The journal after a round that had an event has grown.
pub goes_on :
    (now next : Machine) (did : ℕ) → next ≡ after_turns now (board_places now.setup)
    → did ≡ length (events_of_turns now.setup (configuration now) (board_places now.setup)) → 1 ≤ did
    → length now.journal + 1 ≤ length next.journal
goes_on now next did round count some =
    let sum : length next.journal
    ≡ length now.journal + length (events_of_turns now.setup (configuration now) (board_places now.setup)) =
    ap (λ (m : Machine). length m.journal) round
    ∙ length-append now.journal (events_of_turns now.setup (configuration now) (board_places now.setup)) in
    omega (arith, sum, count, some)

-- A board of one machine is a board of another of the same setup.
pub same_board : (first now : Machine) (board : ℕ) → now.setup ≡ first.setup → IsBoard first board → IsBoard now board
same_board first now board same is =
    record { low = is.low; high = subst (λ (s : Setup). board ≤ length s.boards) (sym same) is.high }

-- A turn, and then the others.
pub turn_first :
    (now next : Machine) (board : ℕ) (rest : List ℕ) → next ≡ moved now (turn_of now board)
    → after_turns next rest ≡ after_turns now (board ∷ rest)
turn_first now next board rest turned =
    ap (λ (m : Machine). after_turns m rest) (turned ∙ sym (one_turn now board))
    ∙ sym (more_turns now (board ∷ []) rest)
