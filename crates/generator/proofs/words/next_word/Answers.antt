use Rattle.generator.proofs.Draws.{step_word, step_next}
use Rattle.generator.proofs.words.next_word.Goals as goal

pub returns-clause-word : goal.returns-clause-word
returns-clause-word c = λ seed words is. step_word seed words _ _ _ c.next_word.ensures is

pub returns-clause-next : goal.returns-clause-next
returns-clause-next c = λ seed words is. step_next seed words _ _ _ c.next_word.ensures is
