-- A machine after one more event still stands.
use Rattle.std.proofs.Common.{◌≡◌, ℕ, suc, ◌+◌, ◌*◌, ◌^◌, ◌<◌, ◌≤◌, Bool, true, false, cond, List, [], ◌∷◌, ◌++◌, map, length, refl, ap, sym, subst, ◌∙◌, arith, Option, Some, None, length-append}
use Rattle.std.specs.Prelude.{slice_get, unwrap_or, filter, not, ◌&&◌, ◌==◌}
use Rattle.bus_signals.specs.declared.BusEvent.{BusEvent}
use Rattle.moesi_state.specs.States.{holds}
use Rattle.moesi_state.specs.declared.Outcome.{Outcome}
use Rattle.bus_model.specs.Turns.{transaction_of}
use Rattle.std.specs.List.{AllByRecursion}
use Rattle.bus_signals.specs.declared.Access.{Access}
use Rattle.bus_model.specs.Setup.{Setup, BoardSpec, board_places, access_count}
use Rattle.bus_model.specs.Places.{places_from}
use Rattle.bus_model.specs.Connecting.{AnswersFit, other_holders}
use Rattle.bus_model.specs.Events.{Event, Connect, Done, Answer, Transaction}
use Rattle.bus_model.specs.Configuration.{Configuration, Progress, Row, fresh, state_at, present_access, opening}
use Rattle.bus_model.specs.Entries.{Entry, entries, entries_after, entries_of, entries_with, with_entry}
use Rattle.bus_model.specs.Runs.{Leads, Run, after_all}
use Rattle.bus_model.specs.Soundness.{Sound, CountsWithin}
use Rattle.bus_model.specs.Steps.{Can, after}
use Rattle.board.specs.Rack.{Rack, CountsFit}
use Rattle.board.specs.Rack.{IsBoard as RackBoard}
use Rattle.connect_phase.specs.Answering.{AllAreBoards}
use Rattle.board.specs.Shown.{counts_from}
use Rattle.coherence.proofs.Journal.{user_present, journals_are_bounded}
use Rattle.coherence.proofs.Progress.{board_there, user_of, done_by, entries-done}
use Rattle.coherence.proofs.Steps.{every_run_is_sound}
use Rattle.coherence.proofs.Words.{entries_more}
use Rattle.backplane.specs.declared.parts.Parts.{Parts}
use Rattle.backplane.specs.Histories.{Histories, HistoriesKeep}
use Rattle.backplane.specs.Machine.{Machine, MayHappen, configuration, configuration_after, happened}
use Rattle.backplane.specs.Parts.{PartsShow, IsPartOf, CountsAreLow, PlacesFit}
use Rattle.backplane.specs.Standing.{Stands}
use Rattle.backplane.proofs.Counted.{length-mapped, length-filtered}

-- ---- runs with one more event

leads-push :
    (setup : Setup) (c last : Configuration) (events : List Event) (event : Event) → Leads setup c events last
    → Can setup last event → Leads setup c (events ++ event ∷ []) (after last event)
leads-push setup c last [] event leads can = (subst (λ x. Can setup x event) leads can, ap (λ x. after x event) leads)
leads-push setup c last (e ∷ events) event leads can =
    (leads.0, leads-push setup (after c e) last events event leads.1 can)

after_all-push :
    (c : Configuration) (events : List Event) (event : Event)
    → after_all c (events ++ event ∷ []) ≡ after (after_all c events) event
after_all-push c [] event = refl
after_all-push c (e ∷ events) event = after_all-push (after c e) events event

pub run-push :
    (setup : Setup) (events : List Event) (event : Event) → Run setup events (configuration_after setup events)
    → Can setup (configuration_after setup events) event
    → Run setup (events ++ event ∷ []) (configuration_after setup (events ++ event ∷ []))
run-push setup events event run can =
    subst (λ x. Leads setup (opening setup) (events ++ event ∷ []) x)
    (sym (after_all-push (opening setup) events event))
    (leads-push setup (opening setup) (configuration_after setup events) events event run can)

-- What may happen to a machine may happen to the configuration of its fields.
pub can-inside : (inside now : Machine) (event : Event) → inside ≡ now → MayHappen now event → MayHappen inside event
can-inside inside now event e may = subst (λ (m : Machine). MayHappen m event) (sym e) may

-- A machine of these events.
abbrev at_events : Setup → List Event → Machine
at_events setup events = record { setup = setup; journal = events }

-- The same for the transaction that a board picks.
pub picks-inside : (inside now : Machine) (board line : ℕ) (event : BusEvent) (outcome : Outcome) → inside ≡ now
    → MayHappen now (Connect (transaction_of now.setup (configuration now) board line event outcome))
    → MayHappen inside (Connect (transaction_of inside.setup (configuration inside) board line event outcome))
picks-inside inside now board line event outcome e may =
    subst (λ (m : Machine). MayHappen m (Connect (transaction_of m.setup (configuration m) board line event outcome)))
    (sym e) may

-- A machine whose journal has grown by the transaction that a board picks: that is what happened.
pub picks-happened :
    (now : Machine) (setup : Setup) (events grown : List Event) (board line : ℕ) (event : BusEvent) (outcome : Outcome)
    (t : Transaction) → at_events setup events ≡ now → grown ≡ events ++ Connect t ∷ []
    → t ≡ transaction_of setup (configuration_after setup events) board line event outcome
    → at_events setup grown
    ≡ happened now (Connect (transaction_of now.setup (configuration now) board line event outcome))
picks-happened now setup events grown board line event outcome t is longer picked =
    ap (at_events setup) (longer ∙ ap (λ (x : Transaction). events ++ Connect x ∷ []) picked)
    ∙ ap (λ (m : Machine). happened m (Connect (transaction_of m.setup (configuration m) board line event outcome))) is

-- ---- what holds of every machine

module _ (setup : Setup) (events : List Event) (capacity : ℕ) (p : Parts) (h : Histories)
    (stands : Stands setup events capacity p h) where
  pub stands-sound : Sound setup events (configuration_after setup events)
  stands-sound =
      every_run_is_sound setup events (configuration_after setup events) stands.fits stands.accepted stands.run

  pub stands-bounded : length events ≤ 8 * access_count setup
  stands-bounded =
      journals_are_bounded setup events (configuration_after setup events) stands.fits stands.accepted stands.run

  -- A board of the setup is one of the parts'.
  pub part-of : (b : ℕ) → 1 ≤ b → b ≤ length setup.boards → IsPartOf p b
  part-of b low high =
      let s = stands.parts in
      let boards : length (configuration_after setup events).boards ≡ length setup.boards = stands-sound.parts.boards in
      let rack : length p.rack.specs ≡ length setup.boards = ap (λ (xs : List BoardSpec). length xs) s.boards in
      let numbers : length p.requests.numbers ≡ length setup.boards =
      ap (λ (xs : List ℕ). length xs) s.numbers ∙ length-mapped (λ (spec : BoardSpec). spec.number) setup.boards in
      let places : length p.places.items ≡ length setup.boards =
      ap (λ (xs : List ℕ). length xs) s.places
      ∙ length-mapped (λ (q : Progress). q.place) (configuration_after setup events).boards ∙ boards in
      record {
        low = low;
        rack = omega (arith, high, rack);
        requests = omega (arith, high, numbers);
        places = omega (arith, high, places);
      }

  pub part-of-present :
      (b : ℕ) (access : Access) → present_access setup (configuration_after setup events).boards b ≡ Some access
      → IsPartOf p b
  part-of-present b access present =
      let there = board_there setup (configuration_after setup events).boards b access stands.fits present in
      part-of b there.low there.high

  -- The board of an event is one of the parts'.
  pub part-of-user : (event : Event) → Can setup (configuration_after setup events) event → IsPartOf p (user_of event)
  part-of-user event can =
      let user = user_present setup events (configuration_after setup events) event stands-sound can in
      part-of-present (user_of event) user.0 user.1

  -- There is room in the journal for an event that may happen.
  pub room-for : (event : Event) → Can setup (configuration_after setup events) event → length events < capacity
  room-for event can =
      let later = events ++ event ∷ [] in
      let bound = journals_are_bounded setup later (configuration_after setup later) stands.fits stands.accepted
      (run-push setup events event stands.run can) in
      let long = length-append events (event ∷ []) in
      let room = stands.room in
      omega (arith, bound, long, room)

counts-fit :
    (n : ℕ) (ps : List Progress) → n < 2 ^ 63 → AllByRecursion (CountsWithin n) ps → CountsFit (map counts_from ps)
counts-fit n [] low each = tt
counts-fit n (p ∷ ps) low each =
    ((let f = each.0.0 in omega (arith, f, low), let s = each.0.1 in omega (arith, s, low)), counts-fit n ps low each.1)

places-fit :
    (n : ℕ) (ps : List Progress) → n < 2 ^ 31 → ((k : ℕ) → (unwrap_or (slice_get ps k) fresh).place ≤ n)
    → PlacesFit (map (λ (q : Progress). q.place) ps)
places-fit n [] low each = tt
places-fit n (p ∷ ps) low each =
    (let first = each 0 in omega (arith, first, low), places-fit n ps low (λ k. each (suc k)))

length-entry :
    (before : List Entry) (b : ℕ) (done : Option Done) → length (with_entry before b done) ≤ length before + 1
length-entry before b None = omega arith
length-entry before b (Some done) =
    let long =
    length-append before (record {
      board = b;
      place = suc (length (entries_of b before));
      access = done.access;
      reply = done.reply;
    } ∷ []) in
    omega (arith, long)

length-entries :
    (before : List Entry) (events : List Event) → length (entries_after before events) ≤ length before + length events
length-entries before [] = omega arith
length-entries before (e ∷ events) =
    let more = length-entries (entries_with before e) events in
    let one = length-entry before (user_of e) (done_by e) in
    let same : length (entries_with before e) ≡ length (with_entry before (user_of e) (done_by e)) =
    ap (λ (xs : List Entry). length xs) (entries-done before e) in
    omega (arith, more, one, same)

-- No count of a machine is near the end of its type.
pub counts-low :
    (setup : Setup) (events : List Event) (capacity : ℕ) (p : Parts) (h : Histories) → Stands setup events capacity p h
    → CountsAreLow p
counts-low setup events capacity p h stands =
    let c = configuration_after setup events in
    let sound = stands-sound setup events capacity p h stands in
    let bound = stands-bounded setup events capacity p h stands in
    let accesses = stands.fits.accesses in
    let few = stands.fits.boards_high in
    let boards : length p.rack.specs ≡ length setup.boards =
    ap (λ (xs : List BoardSpec). length xs) stands.parts.boards in
    let low : length events < 2 ^ 31 = omega (arith, bound, accesses) in
    let place : (k : ℕ) → (unwrap_or (slice_get c.boards k) fresh).place ≤ length events =
    λ k. let count = (sound.scripts (suc k)).count in
    let fewer = length-filtered (λ (e : Entry). e.board == suc k) (entries events) in
    let all = length-entries [] events in
    omega (arith, count, fewer, all) in
    record {
      boards = omega (arith, few, boards);
      counts =
          subst CountsFit (sym stands.parts.rack.counts)
          (counts-fit (length events) c.boards (omega (arith, low)) sound.rows.counts);
      places = subst PlacesFit (sym stands.parts.places) (places-fit (length events) c.boards low place);
    }

-- ---- one more event

-- A machine whose parts and histories have followed an event stands.
pub follows :
    (setup : Setup) (events later : List Event) (capacity more : ℕ) (p next : Parts) (h after_h : Histories)
    (event : Event)
    → Stands setup events capacity p h → Can setup (configuration_after setup events) event
    → later ≡ events ++ event ∷ [] → more ≡ capacity
    → PartsShow setup (after (configuration_after setup events) event) next
    → HistoriesKeep setup (events ++ event ∷ []) after_h → Stands setup later more next after_h
follows setup events later capacity more p next h after_h event stands can is same shows keeps =
    subst (λ (xs : List Event). Stands setup xs more next after_h) (sym is) (record {
      fits = stands.fits;
      accepted = stands.accepted;
      run = run-push setup events event stands.run can;
      room = same ∙ stands.room;
      parts =
          subst (λ (x : Configuration). PartsShow setup x next) (sym (after_all-push (opening setup) events event))
          shows;
      histories = keeps;
    })

-- An event that completes nothing leaves the histories as they are.
pub quiet-histories :
    (setup : Setup) (events : List Event) (h : Histories) (event : Event) → done_by event ≡ None
    → HistoriesKeep setup events h → HistoriesKeep setup (events ++ event ∷ []) h
quiet-histories setup events h event none keeps =
    let same : entries (events ++ event ∷ []) ≡ entries events =
    entries_more [] events event ∙ entries-done (entries events) event
    ∙ ap (with_entry (entries events) (user_of event)) none in
    record {
      entries = keeps.entries
          ∙ ap (λ (xs : List Entry). map (λ board. entries_of board xs) (board_places setup)) (sym same);
      rooms = keeps.rooms;
    }

-- ---- transactions

holders-from :
    {X : Type 0} (rack : Rack) (p : ℕ → Bool) (k : ℕ) (xs : List X) → 1 ≤ k → k + length xs ≤ length rack.specs + 1
    → AllByRecursion (λ b. RackBoard rack b) (filter p (places_from k xs))
holders-from rack p k [] low high = tt
holders-from rack p k (x ∷ xs) low high = go (p k) (holders-from rack p (suc k) xs (omega arith) (omega arith))
  where
    go :
        (t : Bool) → AllByRecursion (λ b. RackBoard rack b) (filter p (places_from (suc k) xs))
        → AllByRecursion (λ b. RackBoard rack b)
        (cond t (k ∷ filter p (places_from (suc k) xs)) (filter p (places_from (suc k) xs)))
    go true rest = (record { low = low; high = omega arith }, rest)
    go false rest = rest

answers-from :
    (rack : Rack) (setup : Setup) (rows : List Row) (line : ℕ) (event : BusEvent) (boards : List ℕ)
    (answers : List Answer) → AnswersFit setup rows line event boards answers
    → AllByRecursion (λ b. RackBoard rack b) boards → AllAreBoards rack answers
answers-from rack setup rows line event [] [] fit all = tt
answers-from rack setup rows line event (b ∷ boards) [] fit all = tt
answers-from rack setup rows line event [] (a ∷ answers) fit all = absurd fit
answers-from rack setup rows line event (b ∷ boards) (a ∷ answers) fit all = (
  subst (λ n. RackBoard rack n) (sym fit.0) all.0,
  answers-from rack setup rows line event boards answers fit.2 all.1,
)

-- Each answer of a transaction is of a board.
pub answers-are-boards :
    (setup : Setup) (c : Configuration) (p : Parts) (t : Transaction) → PartsShow setup c p
    → AnswersFit setup c.rows t.line t.event (other_holders setup c.rows t.master t.line) t.answers
    → AllAreBoards p.rack t.answers
answers-are-boards setup c p t s fit =
    let long : length p.rack.specs ≡ length setup.boards = ap (λ (xs : List BoardSpec). length xs) s.boards in
    answers-from p.rack setup c.rows t.line t.event (other_holders setup c.rows t.master t.line) t.answers fit
    (holders-from p.rack (λ board. not (board == t.master) && holds (state_at c.rows board t.line)) 1 setup.boards
    (omega arith) (omega (arith, long)))

-- The board of an event is one of the parts' after the event too.
pub part-still :
    (setup : Setup) (events : List Event) (capacity : ℕ) (p next : Parts) (h : Histories)
    → Stands setup events capacity p h → (event : Event) → Can setup (configuration_after setup events) event
    → PartsShow setup (after (configuration_after setup events) event) next → IsPartOf next (user_of event)
part-still setup events capacity p next h stands event can shows =
    let later = events ++ event ∷ [] in
    let run = run-push setup events event stands.run can in
    let sound = every_run_is_sound setup later (configuration_after setup later) stands.fits stands.accepted run in
    let was = part-of-user setup events capacity p h stands event can in
    let old = stands.parts in
    let specs : length next.rack.specs ≡ length p.rack.specs =
    ap (λ (xs : List BoardSpec). length xs) (shows.boards ∙ sym old.boards) in
    let numbers : length next.requests.numbers ≡ length p.requests.numbers =
    ap (λ (xs : List ℕ). length xs) (shows.numbers ∙ sym old.numbers) in
    let boards : length (after (configuration_after setup events) event).boards ≡ length setup.boards =
    ap (λ (x : Configuration). length x.boards) (sym (after_all-push (opening setup) events event))
    ∙ sound.parts.boards in
    let places : length next.places.items ≡ length setup.boards =
    ap (λ (xs : List ℕ). length xs) shows.places
    ∙ length-mapped (λ (q : Progress). q.place) (after (configuration_after setup events) event).boards ∙ boards in
    let one : length p.rack.specs ≡ length setup.boards = ap (λ (xs : List BoardSpec). length xs) old.boards in
    let low = was.low in
    let rack = was.rack in
    let requests = was.requests in
    record {
      low = low;
      rack = omega (arith, rack, specs);
      requests = omega (arith, requests, numbers);
      places = omega (arith, rack, places, one);
    }
