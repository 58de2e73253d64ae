-- An answer of a rising list is above those before it.
use Rattle.std.proofs.Common.{ℕ, zero, suc, ◌<◌, List, [], ◌∷◌, take, length, get_or, arith}
use Rattle.journal.specs.declared.answers.Answer.{Answer}
use Rattle.journal.specs.Rising.{IsRising, IsAboveLast}
use Rattle.journal.specs.Boards.{answer_boards}

pub above-before : (answers : List Answer) (i : ℕ) (d : Answer) → i < length answers → IsRising (answer_boards answers)
    → IsAboveLast (answer_boards (take i answers)) (get_or answers i d).board
above-before [] i d l rising = absurd (omega arith)
above-before (a ∷ answers) zero d l rising = tt
above-before (a ∷ []) (suc i) d l rising = absurd (omega arith)
above-before (a ∷ b ∷ answers) (suc zero) d l rising = rising.0
above-before (a ∷ b ∷ answers) (suc (suc i)) d l rising = above-before (b ∷ answers) (suc i) d (omega arith) rising.1
