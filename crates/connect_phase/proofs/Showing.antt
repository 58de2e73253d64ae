-- A rack that shows a configuration picks what the model picks, and still shows it after the answers.
use Rattle.std.proofs.Common.{◌≡◌, ℕ, zero, suc, Bool, List, [], ◌∷◌, map, refl, ap, ◌∙◌}
use Rattle.std.specs.Prelude.{unwrap_or, slice_get}
use Rattle.bus_signals.specs.declared.BusEvent.{BusEvent}
use Rattle.moesi_state.specs.declared.Outcome.{Outcome}
use Rattle.class_relation.specs.declared.SnoopAction.{SnoopAction}
use Rattle.class_relation.specs.Tables.{answers_of}
use Rattle.class_relation.specs.Actions.{answer}
use Rattle.moesi_state.specs.declared.State.TheVariants.{I}
use Rattle.bus_model.specs.Places.{change_index, change_place}
use Rattle.bus_model.specs.Setup.{table_of, choose_of}
use Rattle.bus_model.specs.Events.{Answer, Transaction}
use Rattle.bus_model.specs.Configuration.{Configuration, Progress, Row, fresh, progress_of, state_at}
use Rattle.bus_model.specs.Effects.{answered, spent}
use Rattle.bus_model.specs.Connecting.{other_holders}
use Rattle.bus_model.specs.Turns.{pick, decide_answer, transaction_of}
use Rattle.board.specs.Rack.{Rack, Counts, counts_at, no_counts, setup_of, one_more_spent, picked_answer}
use Rattle.board.specs.Shown.{RackShows, counts_from}
use Rattle.connect_phase.specs.Answering.{answer_from, answered_counts, connected_by, rack_answered, with_answers}

spent-index :
    (ps : List Progress) (m : ℕ)
    → (unwrap_or (slice_get (map counts_from ps) m) no_counts).spent ≡ (unwrap_or (slice_get ps m) fresh).spent
spent-index [] m = refl
spent-index (p ∷ ps) zero = refl
spent-index (p ∷ ps) (suc m) = spent-index ps m

-- The draws that the rack counts are those of the configuration.
pub spent-place : (ps : List Progress) (b : ℕ) → (counts_at (map counts_from ps) b).spent ≡ (progress_of ps b).spent
spent-place ps zero = refl
spent-place ps (suc m) = spent-index ps m

-- What a board picks is what the model picks.
pub picked-shown : (c : Configuration) (rack : Rack) (line : ℕ) (event : BusEvent) (board : ℕ) → RackShows c rack
    → picked_answer rack board line event ≡ decide_answer (setup_of rack) c board line event
picked-shown c rack line event board s =
    let by : List Row → ℕ → SnoopAction =
    λ rows n.
    pick (answer I Bool.false Bool.false Bool.false) (choose_of (setup_of rack) board) n
    (answers_of (table_of (setup_of rack) board) (state_at rows board line) event) in
    ap (λ (rows : List Row). by rows (counts_at rack.counts board).spent) s.rows
    ∙ ap (by c.rows) (ap (λ (cs : List Counts). (counts_at cs board).spent) s.counts ∙ spent-place c.boards board)

answers-shown : (c : Configuration) (rack : Rack) (line : ℕ) (event : BusEvent) (boards : List ℕ) → RackShows c rack
    → map (answer_from rack line event) boards
    ≡ map (λ other.
    let a : Answer = record { board = other; action = decide_answer (setup_of rack) c other line event } in
    a) boards
answers-shown c rack line event [] s = refl
answers-shown c rack line event (b ∷ boards) s =
    ap (λ (a : SnoopAction).
    let x : Answer = record { board = b; action = a } in x ∷ map (answer_from rack line event) boards)
    (picked-shown c rack line event b s)
    ∙ ap (λ (xs : List Answer).
    let x : Answer = record { board = b; action = decide_answer (setup_of rack) c b line event } in x ∷ xs)
    (answers-shown c rack line event boards s)

-- The transaction that a board connects is the model's.
pub connected-shown :
    (c : Configuration) (rack : Rack) (master line : ℕ) (event : BusEvent) (outcome : Outcome) → RackShows c rack
    → connected_by rack master line event outcome ≡ transaction_of (setup_of rack) c master line event outcome
connected-shown c rack master line event outcome s =
    let by : List Answer → Transaction =
    λ answers. record { master = master; event = event; line = line; outcome = outcome; answers = answers } in
    ap by (ap (λ (rows : List Row). map (answer_from rack line event) (other_holders (setup_of rack) rows master line))
    s.rows
    ∙ answers-shown c rack line event (other_holders (setup_of rack) c.rows master line) s)

one-index :
    (ps : List Progress) (m : ℕ)
    → change_index one_more_spent (map counts_from ps) m ≡ map counts_from (change_index spent ps m)
one-index [] m = refl
one-index (p ∷ ps) zero = refl
one-index (p ∷ ps) (suc m) = ap (λ (r : List Counts). counts_from p ∷ r) (one-index ps m)

-- One more draw spent.
pub one-place :
    (ps : List Progress) (b : ℕ)
    → change_place one_more_spent (map counts_from ps) b ≡ map counts_from (change_place spent ps b)
one-place ps zero = refl
one-place ps (suc m) = one-index ps m

counts-shown :
    (ps : List Progress) (answers : List Answer)
    → answered_counts (map counts_from ps) answers ≡ map counts_from (answered ps answers)
counts-shown ps [] = refl
counts-shown ps (a ∷ rest) =
    ap (λ (cs : List Counts). answered_counts cs rest) (one-place ps a.board)
    ∙ counts-shown (change_place spent ps a.board) rest

-- The rack after the answers shows the configuration after them.
pub answers-spent :
    (c : Configuration) (rack next : Rack) (t : Transaction) → next ≡ rack_answered rack t.answers → RackShows c rack
    → RackShows (with_answers c t) next
answers-spent c rack next t e s = rw e (record {
  rows = s.rows;
  counts = ap (λ (cs : List Counts). answered_counts cs t.answers) s.counts ∙ counts-shown c.boards t.answers;
})
