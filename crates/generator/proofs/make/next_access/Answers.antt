use Rattle.std.proofs.Common.{ap, ◌≡◌, ◌∙◌, ◌+◌, arith}
use Rattle.bus_model.specs.Turns.{seeded_word}
use Rattle.generator.specs.Words.{generator_after}
use Rattle.generator.proofs.Making.{access_by_words}
use Rattle.generator.proofs.make.next_access.Goals as goal

pub returns-clause-access : goal.returns-clause-access
returns-clause-access c = λ seed words is.
    let first = c.next_word-x.ensures.next seed words is in
    let second = c.next_word-y.ensures.next seed (words + 1) first in
    let sum : words + 1 + 1 ≡ words + 2 = omega arith in
    c.access_of_kind.ensures
    ∙ access_by_words _ _ _ _ _ _ (c.next_word-x.ensures.word seed words is)
    (c.next_word-y.ensures.word seed (words + 1) first)
    (c.next_word-z.ensures.word seed (words + 1 + 1) second ∙ ap (seeded_word seed) sum)

pub returns-clause-next : goal.returns-clause-next
returns-clause-next c = λ seed words is.
    let first = c.next_word-x.ensures.next seed words is in
    let second = c.next_word-y.ensures.next seed (words + 1) first in
    let sum : words + 1 + 1 + 1 ≡ words + 3 = omega arith in
    c.next_word-z.ensures.next seed (words + 1 + 1) second ∙ ap (generator_after seed) sum
