-- The histories keep each access that an event completes.
use Rattle.std.proofs.Common.{◌≡◌, ℕ, zero, suc, ◌+◌, ◌-◌, ◌<◌, ◌≤◌, Bool, cond, List, [], ◌∷◌, ◌++◌, map, length, get_or, refl, ap, sym, ◌∙◌, arith, Option, Some, None, append-nil}
use Rattle.std.specs.Prelude.{slice_get, unwrap_or, ◌==◌}
use Rattle.std.proofs.lemmas.Bool.{eq-eqb, ne_eqb}
use Rattle.std.proofs.lemmas.List.Elements.{filter-append}
use Rattle.std.proofs.lemmas.Option.{slice_get_within}
use Rattle.bus_signals.specs.declared.Access.{Access}
use Rattle.bus_model.specs.Places.{at_place, change_index, change_place, places_from}
use Rattle.bus_model.specs.Setup.{Setup, BoardSpec, board_places, script_of, WellFormed}
use Rattle.bus_model.specs.Events.{Event, Done}
use Rattle.bus_model.specs.Configuration.{Configuration, Progress, fresh, present_access}
use Rattle.bus_model.specs.Entries.{Entry, entries, entries_of, with_entry}
use Rattle.bus_model.specs.Soundness.{Sound}
use Rattle.bus_model.specs.Steps.{Can, after}
use Rattle.coherence.proofs.DataPhase.{place_then}
use Rattle.coherence.proofs.Journal.{user_present}
use Rattle.coherence.proofs.Progress.{board_there, user_of, done_by, entries-done, place_of}
use Rattle.coherence.proofs.Scripts.{own_place}
use Rattle.coherence.proofs.Words.{entries_more}
use Rattle.backplane.specs.declared.parts.Parts.{Parts}
use Rattle.backplane.specs.Histories.{Histories, HistoriesKeep, kept, history_of, room_of}
use Rattle.backplane.specs.Parts.{PartsShow, IsPartOf}
use Rattle.backplane.proofs.Counted.{length-mapped, length-places}
use Rattle.backplane.proofs.Stepping.{quiet-histories}

of-push :
    (b : ℕ) (es : List Entry) (entry : Entry)
    → entries_of b (es ++ entry ∷ []) ≡ entries_of b es ++ cond (entry.board == b) (entry ∷ []) []
of-push b es entry = filter-append (λ (e : Entry). e.board == b) es (entry ∷ [])

of-own :
    (b : ℕ) (es : List Entry) (entry : Entry) → entry.board ≡ b
    → entries_of b es ++ entry ∷ [] ≡ entries_of b (es ++ entry ∷ [])
of-own b es entry same =
    sym (of-push b es entry ∙ ap (λ (t : Bool). entries_of b es ++ cond t (entry ∷ []) []) (eq-eqb entry.board b same))

of-other :
    (b : ℕ) (es : List Entry) (entry : Entry) → (entry.board ≡ b → ⊥)
    → entries_of b es ≡ entries_of b (es ++ entry ∷ [])
of-other b es entry other =
    sym (of-push b es entry ∙ ap (λ (t : Bool). entries_of b es ++ cond t (entry ∷ []) []) (ne_eqb entry.board b other)
    ∙ append-nil (entries_of b es))

untouched :
    {X : Type 0} (es : List Entry) (entry : Entry) (k : ℕ) (xs : List X) → entry.board < k
    → map (λ b. entries_of b es) (places_from k xs) ≡ map (λ b. entries_of b (es ++ entry ∷ [])) (places_from k xs)
untouched es entry k [] low = refl
untouched es entry k (x ∷ xs) low =
    ap (λ (h : List Entry). h ∷ map (λ b. entries_of b es) (places_from (suc k) xs))
    (of-other k es entry (λ e. omega (arith, e, low)))
    ∙ ap (λ (hs : List (List Entry)). entries_of k (es ++ entry ∷ []) ∷ hs)
    (untouched es entry (suc k) xs (omega arith))

touched : {X : Type 0} (es : List Entry) (entry : Entry) (k j : ℕ) (xs : List X) → entry.board ≡ k + j → j < length xs
    → change_index (λ list. list ++ entry ∷ []) (map (λ b. entries_of b es) (places_from k xs)) j
    ≡ map (λ b. entries_of b (es ++ entry ∷ [])) (places_from k xs)
touched es entry k j [] is within = absurd (omega arith)
touched es entry k zero (x ∷ xs) is within =
    ap (λ (h : List Entry). h ∷ map (λ b. entries_of b es) (places_from (suc k) xs))
    (of-own k es entry (omega (arith, is)))
    ∙ ap (λ (hs : List (List Entry)). entries_of k (es ++ entry ∷ []) ∷ hs)
    (untouched es entry (suc k) xs (omega (arith, is)))
touched es entry k (suc j) (x ∷ xs) is within =
    ap (λ (h : List Entry).
    h ∷ change_index (λ list. list ++ entry ∷ []) (map (λ b. entries_of b es) (places_from (suc k) xs)) j)
    (of-other k es entry (λ e. omega (arith, e, is)))
    ∙ ap (λ (hs : List (List Entry)). entries_of k (es ++ entry ∷ []) ∷ hs)
    (touched es entry (suc k) j xs (omega (arith, is)) (omega arith))

-- One more entry of a board is in the list of that board.
entry-kept :
    {X : Type 0} (es : List Entry) (entry : Entry) (b : ℕ) (xs : List X) → entry.board ≡ b → 1 ≤ b → b ≤ length xs
    → change_place (λ list. list ++ entry ∷ []) (map (λ x. entries_of x es) (places_from 1 xs)) b
    ≡ map (λ x. entries_of x (es ++ entry ∷ [])) (places_from 1 xs)
entry-kept es entry zero xs is low high = absurd (omega arith)
entry-kept es entry (suc j) xs is low high = touched es entry 1 j xs (omega (arith, is)) (omega arith)

place-index :
    (ps : List Progress) (k n : ℕ) → slice_get (map (λ (q : Progress). q.place) ps) k ≡ Some n
    → (unwrap_or (slice_get ps k) fresh).place ≡ n
place-index [] k n e = cc
place-index (p ∷ ps) zero n e = cc
place-index (p ∷ ps) (suc k) n e = place-index ps k n e

-- The place of a board that the parts keep.
pub place-shown :
    (setup : Setup) (c : Configuration) (p : Parts) (b n : ℕ) → PartsShow setup c p → at_place p.places.items b ≡ Some n
    → place_of c.boards b ≡ n
place-shown setup c p zero n s e = cc
place-shown setup c p (suc k) n s e = place-index c.boards k n (ap (λ (ns : List ℕ). slice_get ns k) (sym s.places) ∙ e)

-- The histories after an event that completes an access, or none, keep it.
pub histories-follow :
    (setup : Setup) (events : List Event) (c : Configuration) (next : Parts) (h : Histories) (event : Event) (place : ℕ)
    → WellFormed setup → Sound setup events c → Can setup c event
    → PartsShow setup (after c event) next → at_place next.places.items (user_of event) ≡ Some place
    → HistoriesKeep setup events h
    → HistoriesKeep setup (events ++ event ∷ []) (kept h (user_of event) place (done_by event))
histories-follow setup events c next h event place well sound can s at keeps = go (done_by event) refl
  where
    user : ℕ
    user = user_of event

    go : (d : Option Done) → done_by event ≡ d → HistoriesKeep setup (events ++ event ∷ []) (kept h user place d)
    go None none = quiet-histories setup events h event none keeps
    go (Some done) is =
        let present = user_present setup events c event sound can in
        let there = board_there setup c.boards user present.0 well present.1 in
        let count : length (entries_of user (entries events)) ≡ place_of c.boards user = (sound.scripts user).count in
        let now : place_of (after c event).boards user ≡ place =
        place-shown setup (after c event) next user place s at in
        let own : place_of (after c event).boards user ≡ suc (place_of c.boards user) =
        own_place setup c event well sound.parts can
        ∙ ap (λ (o : Option Done). place_then o (place_of c.boards user)) is in
        let number : place ≡ suc (length (entries_of user (entries events))) = omega (arith, count, now, own) in
        let entry : Entry = record { board = user; place = place; access = done.access; reply = done.reply } in
        let entry_is : entries (events ++ event ∷ []) ≡ entries events ++ entry ∷ [] =
        entries_more [] events event ∙ entries-done (entries events) event ∙ ap (with_entry (entries events) user) is
        ∙ ap (λ (n : ℕ).
        entries events
        ++ (let e : Entry = record { board = user; place = n; access = done.access; reply = done.reply } in
        e) ∷ []) (sym number) in
        record {
          entries =
              ap (λ (hs : List (List Entry)). change_place (λ list. list ++ entry ∷ []) hs user) keeps.entries
              ∙ entry-kept (entries events) entry user setup.boards refl there.low there.high
              ∙ ap (λ (es : List Entry). map (λ b. entries_of b es) (board_places setup)) (sym entry_is);
          rooms = keeps.rooms;
        }

listed :
    {X Y : Type 0} (f : ℕ → Y) (d : Y) (k j : ℕ) (xs : List X) → j < length xs
    → unwrap_or (slice_get (map f (places_from k xs)) j) d ≡ f (k + j)
listed f d k j [] within = absurd (omega arith)
listed f d k zero (x ∷ xs) within = let e : k ≡ k + 0 = omega arith in ap f e
listed f d k (suc j) (x ∷ xs) within =
    let e : suc k + j ≡ k + suc j = omega arith in listed f d (suc k) j xs (omega arith) ∙ ap f e

-- The list of a board has the board's entries.
pub history-is :
    (setup : Setup) (events : List Event) (h : Histories) (b : ℕ) → HistoriesKeep setup events h → 1 ≤ b
    → b ≤ length setup.boards → history_of h b ≡ entries_of b (entries events)
history-is setup events h zero keeps low high = absurd (omega arith)
history-is setup events h (suc j) keeps low high =
    let e : 1 + j ≡ suc j = omega arith in
    ap (λ (hs : List (List Entry)). unwrap_or (slice_get hs j) []) keeps.entries
    ∙ listed (λ b. entries_of b (entries events)) [] 1 j setup.boards (omega arith)
    ∙ ap (λ b. entries_of b (entries events)) e

room-index :
    (scripts : List (List Access)) (k : ℕ)
    → unwrap_or (slice_get (map (λ (script : List Access). length script) scripts) k) 0
    ≡ length (unwrap_or (slice_get scripts k) [])
room-index [] k = refl
room-index (x ∷ scripts) zero = refl
room-index (x ∷ scripts) (suc k) = room-index scripts k

room-is :
    (setup : Setup) (events : List Event) (h : Histories) (b : ℕ) → HistoriesKeep setup events h
    → room_of h b ≡ length (script_of setup b)
room-is setup events h zero keeps = refl
room-is setup events h (suc k) keeps =
    ap (λ (ns : List ℕ). unwrap_or (slice_get ns k) 0) keeps.rooms ∙ room-index setup.scripts k

-- A board with an access to do has room for its entry.
pub history-room :
    (setup : Setup) (events : List Event) (c : Configuration) (h : Histories) (b : ℕ) (access : Access)
    → WellFormed setup → Sound setup events c → HistoriesKeep setup events h
    → present_access setup c.boards b ≡ Some access
    → length (history_of h b) < room_of h b
history-room setup events c h b access well sound keeps present =
    let there = board_there setup c.boards b access well present in
    let list = ap (λ (es : List Entry). length es) (history-is setup events h b keeps there.low there.high) in
    let count : length (entries_of b (entries events)) ≡ place_of c.boards b = (sound.scripts b).count in
    let room = room-is setup events h b keeps in
    let within = slice_get_within (script_of setup b) (place_of c.boards b) access present in
    omega (arith, list, count, room, within)

-- There is a list for each board.
pub history-there :
    (setup : Setup) (events : List Event) (h : Histories) → HistoriesKeep setup events h
    → length h.entries ≡ length setup.boards
history-there setup events h keeps =
    ap (λ (hs : List (List Entry)). length hs) keeps.entries
    ∙ length-mapped (λ b. entries_of b (entries events)) (board_places setup) ∙ length-places setup.boards 1

pub history-high :
    (setup : Setup) (events : List Event) (c : Configuration) (p : Parts) (h : Histories) (b : ℕ)
    → HistoriesKeep setup events h → PartsShow setup c p → IsPartOf p b → b ≤ length h.entries
history-high setup events c p h b keeps s part =
    let there = history-there setup events h keeps in
    let specs : length p.rack.specs ≡ length setup.boards = ap (λ (xs : List BoardSpec). length xs) s.boards in
    let rack = part.rack in
    omega (arith, there, specs, rack)

script-index : (scripts : List (List Access)) (k : ℕ) → get_or scripts k [] ≡ unwrap_or (slice_get scripts k) []
script-index [] k = refl
script-index (x ∷ scripts) zero = refl
script-index (x ∷ scripts) (suc k) = script-index scripts k

-- The script of a board.
pub script-is : (setup : Setup) (b : ℕ) → 1 ≤ b → get_or setup.scripts (b - 1) [] ≡ script_of setup b
script-is setup zero low = absurd (omega arith)
script-is setup (suc k) low = let same : suc k - 1 ≡ k = omega arith in rw same (script-index setup.scripts k)

-- The access at the place that the parts keep.
pub present-is :
    (setup : Setup) (c : Configuration) (p : Parts) (b place : ℕ) (script : List Access) (access : Option Access)
    → PartsShow setup c p → 1 ≤ b → at_place p.places.items b ≡ Some place
    → script ≡ get_or setup.scripts (b - 1) [] → access ≡ slice_get script place
    → access ≡ present_access setup c.boards b
present-is setup c p b place script access s low at is found =
    found ∙ ap (λ (xs : List Access). slice_get xs place) (is ∙ script-is setup b low)
    ∙ ap (slice_get (script_of setup b)) (sym (place-shown setup c p b place s at))
