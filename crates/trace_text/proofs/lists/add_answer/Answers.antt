use Rattle.std.proofs.Common.{sym, ap, ◌∙◌, arith}
use Rattle.journal.specs.Boards.{answer_boards}
use Rattle.trace_text.specs.Reading.{last_of}
use Rattle.trace_text.proofs.Longer.{answer_above, answer_last}
use Rattle.trace_text.proofs.lists.add_answer.Goals as goal

pub push-requires-clause-above : goal.push-requires-clause-above
push-requires-clause-above c =
    answer_above c.args.answers.now c.in-Some.next.board (omega (arith, c.place_of-place.ensures, c.requires))

pub returns-clause-last : goal.returns-clause-last
returns-clause-last c =
    c.place_of-place.ensures
    ∙ (sym (answer_last c.args.answers.now c.in-Some.next) ∙ ap (λ xs. last_of (answer_boards xs)) (sym c.push.ensures))
