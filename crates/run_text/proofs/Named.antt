-- The boards that an event names are boards of the setup.
use Rattle.std.proofs.Common.{◌≡◌, ◌≢◌, ℕ, zero, suc, ◌+◌, ◌<◌, ◌≤◌, Bool, true, false, not, ◌&&◌, List, [], ◌∷◌, length, map, Option, Some, None, refl, sym, ap, ◌∙◌, subst, arith, inl, inr, unwrap_or, option_map}
use Rattle.std.specs.Prelude.{filter, find, ◌==◌}
use Rattle.std.specs.List.{AllByRecursion}
use Rattle.std.proofs.lemmas.Bool.{and_parts, not-true, eq-eqb, both_ways}
use Rattle.moesi_state.specs.declared.State.{State}
use Rattle.moesi_state.specs.States.{holds}
use Rattle.journal.specs.Boards.{answer_boards, state_boards}
use Rattle.trace_text.specs.Ranges.{IsBoard, IsSource}
use Rattle.bus_model.specs.Places.{at_place}
use Rattle.bus_model.specs.Setup.{Setup, WellFormed, board_places}
use Rattle.bus_model.specs.Events.{Answer, Source, Nobody, Memory, Board}
use Rattle.bus_model.specs.Configuration.{Configuration, Row, Progress, state_at, progress_of, is_raised, fresh}
use Rattle.bus_model.specs.Connecting.{other_holders, capturers, intervener}
use Rattle.bus_model.specs.Carrying.{intervener_or_memory}
use Rattle.bus_model.specs.Soundness.{PartsFit}
use Rattle.coherence.proofs.Lists.{In, all-in, in-filter, in-find, map-in, in-map}
use Rattle.coherence.proofs.Places.{IsPlace, at_place_is}
use Rattle.run_text.proofs.Settled.{place-in}

pub board_is : (setup : Setup) (board : ℕ) → WellFormed setup → IsPlace (length setup.boards) board → IsBoard board
board_is setup board well there = (there.low, omega (arith, there.high, well.boards_high))

-- A board that has raised a request is one of the setup's.
pub raised_is :
    (setup : Setup) (c : Configuration) (board : ℕ) → PartsFit setup c → is_raised c.boards board ≡ true
    → IsPlace (length setup.boards) board
raised_is setup c board parts h = go (at_place c.boards board) refl h
  where
    go :
        (o : Option Progress) → at_place c.boards board ≡ o → (unwrap_or o fresh).raised ≡ true
        → IsPlace (length setup.boards) board
    go None e k = cc
    go (Some p) e k = subst (λ n. IsPlace n board) parts.boards (at_place_is c.boards board p e)

-- What holds of each other holder of a line: it is a board of the setup, and it is not the master.
pub holder_is :
    (setup : Setup) (rows : List Row) (master line board : ℕ) → In board (other_holders setup rows master line)
    → IsPlace (length setup.boards) board × (board ≢ master)
holder_is setup rows master line board there =
    let r = in-filter (λ b. not (b == master) && holds (state_at rows b line)) (board_places setup) board there in
    let other : (board == master) ≡ false =
    not-true (board == master) (and_parts (not (board == master)) (holds (state_at rows board line)) r.1).0 in
    (place-in setup board r.0, λ e. both_ways (board == master) other (eq-eqb board master e))

pub holders_are :
    (setup : Setup) (rows : List Row) (master line : ℕ) → WellFormed setup
    → AllByRecursion IsBoard (other_holders setup rows master line)
holders_are setup rows master line well =
    all-in IsBoard (other_holders setup rows master line)
    (λ b m. board_is setup b well (holder_is setup rows master line b m).0)

pub holders_differ :
    (setup : Setup) (rows : List Row) (master line : ℕ)
    → AllByRecursion (λ b. b ≢ master) (other_holders setup rows master line)
holders_differ setup rows master line =
    all-in (λ b. b ≢ master) (other_holders setup rows master line) (λ b m. (holder_is setup rows master line b m).1)

-- Boards that answers name, where each board that answers is a board.
answer-in : (answers : List Answer) (a : Answer) → In a answers → In a.board (answer_boards answers)
answer-in answers a m = in-map (λ (x : Answer). x.board) answers a m

pub capturers_are :
    (answers : List Answer) → ((b : ℕ) → In b (answer_boards answers) → IsBoard b)
    → AllByRecursion IsBoard (capturers answers)
capturers_are answers each =
    all-in IsBoard (capturers answers)
    (λ b m. go b (map-in (λ (x : Answer). x.board) (filter (λ (x : Answer). x.action.response.sl) answers) b m))
  where
    go :
        (b : ℕ) → ((a : Answer) × In a (filter (λ (x : Answer). x.action.response.sl) answers) × (a.board ≡ b))
        → IsBoard b
    go b r =
        subst IsBoard r.2
        (each r.0.board (answer-in answers r.0 (in-filter (λ (x : Answer). x.action.response.sl) answers r.0 r.1).0))

pub intervener_is :
    (answers : List Answer) (b : ℕ) → ((b : ℕ) → In b (answer_boards answers) → IsBoard b) → intervener answers ≡ Some b
    → IsBoard b
intervener_is answers b each e = go (find (λ (a : Answer). a.action.response.di) answers) refl e
  where
    go :
        (o : Option Answer) → find (λ (a : Answer). a.action.response.di) answers ≡ o
        → option_map (λ (a : Answer). a.board) o ≡ Some b → IsBoard b
    go None h k = cc
    go (Some a) h k =
        let same : a.board ≡ b = ap (λ o. unwrap_or o 0) k in
        subst IsBoard same
        (each a.board (answer-in answers a (in-find (λ (x : Answer). x.action.response.di) answers a h).0))

pub source_is :
    (answers : List Answer) → ((b : ℕ) → In b (answer_boards answers) → IsBoard b)
    → IsSource (intervener_or_memory (intervener answers))
source_is answers each = go (intervener answers) refl
  where
    go : (o : Option ℕ) → intervener answers ≡ o → IsSource (intervener_or_memory o)
    go None h = tt
    go (Some b) h = intervener_is answers b each h

-- The boards of the states after a data phase are the answering ones.
pub states_named :
    (answers : List Answer)
    → state_boards (map (λ (a : Answer). (a.board, a.action.result)) answers) ≡ answer_boards answers
states_named [] = refl
states_named (a ∷ answers) = ap (λ bs. a.board ∷ bs) (states_named answers)
