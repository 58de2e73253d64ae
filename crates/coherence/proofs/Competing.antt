-- The boards that compete for the bus have raised a request, and some board competes where one has. A grant keeps the
-- kind of the arbitration.
use Rattle.bus_model.specs.Arbitration.{competing, does_any_wait, does_compete, is_waiting, marks_at_grant, won_by}
use Rattle.bus_model.specs.Configuration.{Arbitration, ByNumber, Fair, Progress, fresh, is_raised, is_served}
use Rattle.bus_model.specs.Places.{at_place, places_from}
use Rattle.bus_model.specs.Setup.{Setup}
use Rattle.bus_model.specs.Soundness.{ArbitrationFits}
use Rattle.coherence.proofs.Lists.{In, any-of, filter-in}
use Rattle.coherence.proofs.Places.{IsPlace, at_place_is, length-change_place, places-in}
use Rattle.std.proofs.Common.{Bool, List, None, Option, Some, arith, cond, false, length, map, not, refl, true, unwrap_or, ℕ, ◌&&◌, ◌||◌, ◌∙◌, ◌≡◌}
use Rattle.std.proofs.lemmas.Bool.{and_parts}
use Rattle.std.proofs.lemmas.List.{length-map}

-- A board that has raised a request is one of the boards.
pub raised_place :
    (boards : List Progress) (board : ℕ) → is_raised boards board ≡ true → IsPlace (length boards) board
raised_place boards board h = go (at_place boards board) refl h
  where
    go :
        (o : Option Progress) → at_place boards board ≡ o → (unwrap_or o fresh).raised ≡ true
        → IsPlace (length boards) board
    go None e r = cc
    go (Some p) e r = at_place_is boards board p e

pub raised_in :
    (boards : List Progress) (board : ℕ) → is_raised boards board ≡ true → In board (places_from 1 boards)
raised_in boards board h =
    let there = raised_place boards board h in
    let high = there.high in
    places-in boards 1 board there.low (omega (arith, high))

pub competes_raised :
    (a : Arbitration) (boards : List Progress) (board : ℕ) → does_compete a boards board ≡ true
    → is_raised boards board ≡ true
competes_raised ByNumber boards board h = h
competes_raised (Fair served) boards board h =
    (and_parts (is_raised boards board) (not (does_any_wait served boards) || not (is_served served board)) h).0

-- Where a board has raised a request, some board competes.
pub some_competes :
    (a : Arbitration) (boards : List Progress) (board : ℕ) → is_raised boards board ≡ true
    → (b : ℕ) × In b (places_from 1 boards) × (does_compete a boards b ≡ true)
some_competes ByNumber boards board h = (board, raised_in boards board h, h)
some_competes (Fair served) boards board h = go (does_any_wait served boards) refl
  where
    waits : (r s : Bool) → (r && not s) ≡ true → (r && (false || not s)) ≡ true
    waits true s e = e
    waits false s e = e

    go :
        (w : Bool) → does_any_wait served boards ≡ w
        → (b : ℕ) × In b (places_from 1 boards) × (does_compete (Fair served) boards b ≡ true)
    go true e =
        let one = any-of (is_waiting served boards) (places_from 1 boards) e in
        (one.0, one.1, rw e (waits (is_raised boards one.0) (is_served served one.0) one.2))
    go false e = (board, raised_in boards board h, rw (e, h) refl)

pub some_is_competing :
    (a : Arbitration) (boards : List Progress) (board : ℕ) → is_raised boards board ≡ true
    → (b : ℕ) × In b (competing a boards)
some_is_competing a boards board h =
    let one = some_competes a boards board h in
    (one.0, filter-in (does_compete a boards) (places_from 1 boards) one.0 one.1 one.2)

-- ---- the arbitration after a grant

pub length-marks :
    (served : List Bool) (boards : List Progress) → length (marks_at_grant served boards) ≡ length served
length-marks served boards = go (does_any_wait served boards)
  where
    go : (b : Bool) → length (cond b served (map (λ mark. false) served)) ≡ length served
    go true = refl
    go false = length-map served (λ mark. false)

pub won-fits :
    (setup : Setup) (boards : List Progress) (winner : ℕ) (a : Arbitration) → ArbitrationFits setup a
    → ArbitrationFits setup (won_by winner boards a)
won-fits setup boards winner ByNumber h = h
won-fits setup boards winner (Fair served) h = (
  h.0,
  length-change_place (λ mark. true) (marks_at_grant served boards) winner ∙ length-marks served boards ∙ h.1,
)
