-- A script that is at its end stays there, and a machine all of whose scripts are at their ends is finished.
use Rattle.std.proofs.Common.{◌≡◌, ◌⊎◌, inl, inr, ℕ, zero, suc, ◌+◌, ◌<◌, ◌≤◌, ◌^◌, true, false, List, [], ◌∷◌, ◌++◌, Option, None, Some, refl, sym, ap, ◌∙◌, subst, arith, length, unwrap_or, append_assoc}
use Rattle.std.specs.Prelude.{slice_get, slice_index_or, All}
use Rattle.std.proofs.lemmas.Bool.{cases_lt}
use Rattle.bus_signals.specs.declared.Access.{Access}
use Rattle.bus_model.specs.Places.{change_index, change_place}
use Rattle.bus_model.specs.Setup.{Setup, WellFormed, script_of}
use Rattle.bus_model.specs.Events.{Event, Local, Drop, Raise, Grant, Connect, DataPhase, Done}
use Rattle.bus_model.specs.Configuration.{Configuration, Progress, fresh, opening, present_access, progress_of, words_at}
use Rattle.bus_model.specs.Effects.{asking, completed, put_copy, spent}
use Rattle.bus_model.specs.Board.{access_line}
use Rattle.bus_model.specs.Carrying.{state_of_master, written}
use Rattle.bus_model.specs.Steps.{after}
use Rattle.bus_model.specs.Runs.{Complete, after_all}
use Rattle.bus_model.specs.Soundness.{Sound}
use Rattle.coherence.proofs.DataPhase.{after_data-is, answering_rows, done_boards, placed_boards}
use Rattle.coherence.proofs.Progress.{connected_course, kept-change, place_of}
use Rattle.coherence.proofs.Puts.{put_boards-course, put_copy-course}
use Rattle.backplane.specs.Machine.{Machine, configuration}
use Rattle.backplane.proofs.Turning.{complete_then}
use Rattle.ruled_turn.specs.Entries.{GoesOn}
use Rattle.ruled_turn.specs.Seats.{number, seen, turns}
use Rattle.race_run.specs.Histories.{made, events_of, IsAtEnd}
use Rattle.race_run.specs.Workers.{Seat, IsThrough, AreLater}
use Rattle.race_run.specs.Races.{GoesOnFrom}
use Rattle.race_run.proofs.Turning.{events-made, events-more}

-- ---- no event takes a board back

reached_later :
    (boards : List Progress) (k board : ℕ)
    → (unwrap_or (slice_get boards board) fresh).place
    ≤ (unwrap_or (slice_get (change_index completed boards k) board) fresh).place
reached_later [] k board = omega arith
reached_later (p ∷ boards) zero zero = omega arith
reached_later (p ∷ boards) zero (suc board) = omega arith
reached_later (p ∷ boards) (suc k) zero = omega arith
reached_later (p ∷ boards) (suc k) (suc board) = reached_later boards k board

-- A completed access takes no board back.
completed_later :
    (boards : List Progress) (k board : ℕ) → place_of boards board ≤ place_of (change_place completed boards k) board
completed_later boards zero board = omega arith
completed_later boards (suc k) zero = omega arith
completed_later boards (suc k) (suc board) = reached_later boards k board

done_later :
    (done : Option Done) (boards : List Progress) (master board : ℕ)
    → place_of boards board ≤ place_of (done_boards done boards master) board
done_later None boards master board = omega arith
done_later (Some d) boards master board = completed_later boards master board

-- No event takes a board back in its script.
later :
    (c : Configuration) (event : Event) (board : ℕ) → place_of c.boards board ≤ place_of (after c event).boards board
later c (Local b before state done) board =
    let line = access_line done.access in
    let words = written done.access (words_at c.rows b line) in
    let put = (put_copy c b line state words).boards in
    let kept = (put_copy-course c b line state words).place board in
    let more = completed_later put b board in
    let drawn = kept-change spent (λ (p : Progress). p.place) (λ p. refl) (change_place completed put b) b board in
    let asked = kept-change (asking false) (λ (p : Progress). p.place) (λ p. refl)
    (change_place spent (change_place completed put b) b) b board in
    omega (arith, kept, more, drawn, asked)
later c (Drop b line before) board = omega arith
later c (Raise b) board =
    let kept = kept-change (asking true) (λ (p : Progress). p.place) (λ p. refl) c.boards b board in omega (arith, kept)
later c (Grant by winner lines rounds) board =
    let kept = kept-change (asking false) (λ (p : Progress). p.place) (λ p. refl) c.boards winner board in
    omega (arith, kept)
later c (Connect t) board = let kept = (connected_course c.boards t.master t.answers).place board in omega (arith, kept)
later c (DataPhase e) board =
    let is = ap (λ (d : Configuration). place_of d.boards board) (after_data-is c e) in
    let kept = (put_boards-course (answering_rows c e) c.boards e.master e.line (state_of_master e)).place board in
    let more = done_later e.done (placed_boards c e) e.master board in
    omega (arith, is, kept, more)

past_end : {X : Type 0} (xs : List X) (n m : ℕ) → n ≤ m → slice_get xs n ≡ None → slice_get xs m ≡ None
past_end [] n m more e = refl
past_end (x ∷ xs) zero m more e = cc
past_end (x ∷ xs) (suc n) zero more e = absurd (omega (arith, more))
past_end (x ∷ xs) (suc n) (suc m) more e = past_end xs n m (omega (arith, more)) e

-- A script at its end stays there.
stays :
    (setup : Setup) (c : Configuration) (events : List Event) (board : ℕ) → present_access setup c.boards board ≡ None
    → present_access setup (after_all c events).boards board ≡ None
stays setup c [] board none = none
stays setup c (event ∷ events) board none =
    stays setup (after c event) events board
    (past_end (script_of setup board) (place_of c.boards board) (place_of (after c event).boards board)
    (later c event board) none)

stays_after :
    (setup : Setup) (c : Configuration) (events more : List Event) (board : ℕ)
    → present_access setup (after_all c events).boards board ≡ None
    → present_access setup (after_all c (events ++ more)).boards board ≡ None
stays_after setup c [] more board none = stays setup c more board none
stays_after setup c (event ∷ events) more board none = stays_after setup (after c event) events more board none

-- A script that is at its end after a history is at its end after a history that goes on from it.
ends_later :
    (setup : Setup) (history : List (ℕ × Event)) (journal : List Event) (board : ℕ) → GoesOn history (made journal)
    → IsAtEnd setup history board → present_access setup (after_all (opening setup) journal).boards board ≡ None
ends_later setup history journal board on none =
    let is : journal ≡ events_of history ++ events_of on.more =
    sym (events-made journal) ∙ ap events_of on.is ∙ events-more history on.more in
    subst (λ (es : List Event). present_access setup (after_all (opening setup) es).boards board ≡ None) (sym is)
    (stays_after setup (opening setup) (events_of history) (events_of on.more) board none)

-- ---- all seats

past_list : {X : Type 0} (xs : List X) (n : ℕ) → length xs ≤ n → slice_get xs n ≡ None
past_list [] n more = refl
past_list (x ∷ xs) zero more = absurd (omega (arith, more))
past_list (x ∷ xs) (suc n) more = past_list xs n (omega (arith, more))

there : {X : Type 0} (xs : List X) (k : ℕ) (d : X) → k < length xs → slice_get xs k ≡ Some (slice_index_or xs k d)
there [] k d less = absurd (omega (arith, less))
there (x ∷ xs) zero d less = refl
there (x ∷ xs) (suc k) d less = there xs k d (omega (arith, less))

-- What holds where there is an element holds where a place is below the length.
some_element : {X : Type 0} (Goal : Type 0) (xs : List X) (k : ℕ) → k < length xs → (X → Goal) → Goal
some_element Goal [] k less from = absurd (omega (arith, less))
some_element Goal (x ∷ xs) k less from = from x

-- What is known of a machine after the turns of all its seats, none of which is spent.
pub record AllWorked (m : Machine) (dealt worked : List Seat) : Type 0 where
  pub well : WellFormed m.setup
  pub sound : Sound m.setup m.journal (configuration m)
  pub count : length dealt ≡ length m.setup.boards
  pub numbered : (k : ℕ) (s : Seat) → slice_get dealt k ≡ Some s → number s ≡ k + 1
  pub same : length worked ≡ length dealt
  pub follows : AreLater dealt worked
  pub known : All (λ s. GoesOn (seen s) (made m.journal)) worked
  pub ended : All (λ s. IsThrough m.setup s ⊎ (turns s ≡ 2 ^ 40)) worked
  pub few : All (λ s. turns s < 2 ^ 40) worked

module _ (m : Machine) (dealt worked : List Seat) (all : AllWorked m dealt worked) where
  at_its_end : (k : ℕ) → k < length m.setup.boards → present_access m.setup (configuration m).boards (suc k) ≡ None
  at_its_end k less = some_element (present_access m.setup (configuration m).boards (suc k) ≡ None) dealt k below from
    where
      below : k < length dealt
      below = let e = all.count in omega (arith, e, less)

      within : k < length worked
      within = let e = all.same in omega (arith, e, below)

      from : Seat → present_access m.setup (configuration m).boards (suc k) ≡ None
      from d =
          let s = slice_index_or worked k d in
          let one : k + 1 ≡ suc k = omega arith in
          let is : number s ≡ suc k =
          (all.follows k d below).number ∙ all.numbered k (slice_index_or dealt k d) (there dealt k d below)
          ∙ one in
          go s is (all.ended k d within) (all.few k d within) (all.known k d within)
        where
          go :
              (s : Seat) → number s ≡ suc k → (IsThrough m.setup s ⊎ (turns s ≡ 2 ^ 40)) → turns s < 2 ^ 40
              → GoesOn (seen s) (made m.journal) → present_access m.setup (configuration m).boards (suc k) ≡ None
          go s is (inl through) few on =
              subst (λ (n : ℕ). present_access m.setup (configuration m).boards n ≡ None) is
              (ends_later m.setup (seen s) m.journal (number s) on through.ended)
          go s is (inr spent) few on = absurd (omega (arith, spent, few))

  each_at_its_end : (board : ℕ) → present_access m.setup (configuration m).boards board ≡ None
  each_at_its_end zero = refl
  each_at_its_end (suc k) = go (cases_lt k (length m.setup.boards))
    where
      go :
          (k < length m.setup.boards) ⊎ (length m.setup.boards ≤ k)
          → present_access m.setup (configuration m).boards (suc k) ≡ None
      go (inl less) = at_its_end k less
      go (inr more) =
          let none : slice_get m.setup.scripts k ≡ None =
          let e = all.well.scripts in past_list m.setup.scripts k (omega (arith, e, more)) in
          ap (λ (o : Option (List Access)).
          slice_get (unwrap_or o []) (progress_of (configuration m).boards (suc k)).place) none

  -- The machine is finished.
  pub is_finished : Complete m.setup (configuration m)
  is_finished = complete_then m.setup m.journal (configuration m) all.sound each_at_its_end

-- ---- the journal

-- A journal goes on where its history does.
pub goes_on_from : (earlier journal : List Event) → GoesOn (made earlier) (made journal) → GoesOnFrom earlier journal
goes_on_from earlier journal on = record {
  more = events_of on.more;
  is =
      sym (events-made journal)
      ∙ ap events_of on.is
      ∙ events-more (made earlier) on.more
      ∙ ap (λ (es : List Event). es ++ events_of on.more) (events-made earlier);
}

-- Going on from a journal is transitive.
pub further :
    (first second third : List Event) → GoesOnFrom first second → GoesOnFrom second third → GoesOnFrom first third
further first second third on then = record {
  more = on.more ++ then.more;
  is = then.is ∙ ap (λ (es : List Event). es ++ then.more) on.is ∙ append_assoc first on.more then.more;
}
