use Rattle.std.proofs.Common.{◌≡◌, ◌<◌, length, get_or}
use Rattle.journal.proofs.Copying.{above-before}
use Rattle.journal.proofs.answers.Answers.copy.Goals as goal

pub push-requires-clause-above : goal.push-requires-clause-above
push-requires-clause-above c =
    let items = c.items-answer-items.ensures in
    let l : c.loop-answer.answer-index < length c.args.self.now = rw items.items at c.loop-answer-test.true in
    let is : c.answer-item.result ≡ get_or c.args.self.now c.loop-answer.answer-index c.answer-item.result =
    rw items.items at c.answer-item.is in
    rw (c.loop-answer.invariant, is)
    (above-before c.args.self.now c.loop-answer.answer-index c.answer-item.result l items.rising)
