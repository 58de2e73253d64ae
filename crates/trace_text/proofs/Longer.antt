-- Lists that grow by one word after another.
use Rattle.std.proofs.Common.{◌≡◌, ℕ, ◌<◌, true, false, List, [], ◌∷◌, ◌++◌, length, drop, Some, None, refl, ap, ◌∙◌, arith}
use Rattle.std.specs.Prelude.{codes}
use Rattle.std.specs.Str.{bytes_eq}
use Rattle.fb_text.specs.Places.{Words}
use Rattle.moesi_state.specs.declared.State.{State}
use Rattle.journal.specs.declared.answers.Answer.{Answer}
use Rattle.journal.specs.Rising.{IsAboveLast, IsAboveRest}
use Rattle.journal.specs.Boards.{answer_boards, state_boards}
use Rattle.trace_text.specs.Reading.{last_of, board_of, added_place, more_places, answer_of, added_answer, more_answers, placed_of, added_state, more_states}
use Rattle.trace_text.proofs.Lasts.{above_last, last-push, map-push}

-- ---- boards

pub places_end : (ps : List ℕ) → more_places ps [] ≡ Some ps
unfolding more_places
places_end ps = refl

pub places_none :
    (ps : List ℕ) (w : List ℕ) (ws : Words) → added_place ps (board_of w) ≡ None → more_places ps (w ∷ ws) ≡ None
unfolding more_places
places_none ps w ws h = rw h refl

pub places_more :
    (ps longer : List ℕ) (w : List ℕ) (ws : Words) → added_place ps (board_of w) ≡ Some longer
    → more_places ps (w ∷ ws) ≡ more_places longer ws
unfolding more_places
places_more ps longer w ws h = rw h refl

-- ---- answers

pub answers_end : (xs : List Answer) → more_answers xs [] ≡ Some xs
unfolding more_answers
answers_end xs = refl

pub answers_none :
    (xs : List Answer) (w : List ℕ) (ws : Words) → added_answer xs (answer_of w) ≡ None
    → more_answers xs (w ∷ ws) ≡ None
unfolding more_answers
answers_none xs w ws h = rw h refl

pub answers_more :
    (xs longer : List Answer) (w : List ℕ) (ws : Words) → added_answer xs (answer_of w) ≡ Some longer
    → more_answers xs (w ∷ ws) ≡ more_answers longer ws
unfolding more_answers
answers_more xs longer w ws h = rw h refl

pub answer_above : (xs : List Answer) (n : ℕ) → last_of (answer_boards xs) < n → IsAboveLast (answer_boards xs) n
answer_above xs n lt = above_last (answer_boards xs) n lt

pub answer_last : (xs : List Answer) (a : Answer) → last_of (answer_boards (xs ++ a ∷ [])) ≡ a.board
answer_last xs a = ap last_of (map-push (λ (a : Answer). a.board) xs a) ∙ last-push (answer_boards xs) a.board

-- ---- states

pub states_end : (master : ℕ) (ss : List (ℕ × State)) → more_states master ss [] ≡ None
unfolding more_states
states_end master ss = refl

pub states_done :
    (master : ℕ) (ss : List (ℕ × State)) (w : List ℕ) (ws : Words) → bytes_eq w (codes "done") ≡ true
    → more_states master ss (w ∷ ws) ≡ Some (ss, ws)
unfolding more_states
states_done master ss w ws h = rw h refl

pub states_none :
    (master : ℕ) (ss : List (ℕ × State)) (w : List ℕ) (ws : Words) → bytes_eq w (codes "done") ≡ false
    → added_state master ss (placed_of w) ≡ None → more_states master ss (w ∷ ws) ≡ None
unfolding more_states
states_none master ss w ws d h = rw (d, h) refl

pub states_more :
    (master : ℕ) (ss longer : List (ℕ × State)) (w : List ℕ) (ws : Words) → bytes_eq w (codes "done") ≡ false
    → added_state master ss (placed_of w) ≡ Some longer
    → more_states master ss (w ∷ ws) ≡ more_states master longer ws
unfolding more_states
states_more master ss longer w ws d h = rw (d, h) refl

pub state_above :
    (ss : List (ℕ × State)) (n : ℕ) → last_of (drop 1 (state_boards ss)) < n → IsAboveRest (state_boards ss) n
state_above [] n lt = tt
state_above (s ∷ ss) n lt = above_last (state_boards ss) n lt

pub state_last :
    (ss : List (ℕ × State)) (p : ℕ × State) → 0 < length ss → last_of (drop 1 (state_boards (ss ++ p ∷ []))) ≡ p.0
state_last [] p some = absurd (omega arith)
state_last (s ∷ ss) p some = ap last_of (map-push (λ (s : ℕ × State). s.0) ss p) ∙ last-push (state_boards ss) p.0
