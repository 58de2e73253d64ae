-- The boards that lists of answers and of states name.
use Rattle.std.specs.Prelude.{ℕ, List, map}
use Rattle.moesi_state.specs.declared.State.{State}
use Rattle.journal.specs.declared.answers.Answer.{Answer}

-- The boards of answers, in order.
abbrev pub answer_boards : List Answer → List ℕ
answer_boards answers = map (λ (a : Answer). a.board) answers

-- The boards of states, in order.
abbrev pub state_boards : List (ℕ × State) → List ℕ
state_boards states = map (λ (s : ℕ × State). s.0) states
