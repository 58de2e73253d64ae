use Rattle.std.proofs.Common.{ℕ, sym, ap, ◌∙◌, ◌%◌, ◌+◌, ◌-◌, ◌∷◌, arith}
use Rattle.generator.specs.Schedule.{turns_of}
use Rattle.generator.proofs.Scheduling.{turn_taken}
use Rattle.generator.proofs.turns.SeededTurns.next_turn.Goals as goal

pub returns : goal.returns
returns c =
    let s = c.self.inside in
    let word = c.next_word-word.result in
    let rest = c.next_word-word.new.generator in
    sym c.self.view_is
    ∙ turn_taken s.boards s.left word s.generator rest (λ h. omega (arith, h)) c.next_word-word.ensures.step
    ∙ ap (λ (b : ℕ). (1 + word % b) ∷ turns_of rest s.boards (s.left - 1)) (sym c.from.ensures)
