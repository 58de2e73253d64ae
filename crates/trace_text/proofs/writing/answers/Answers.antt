use Rattle.journal.specs.declared.answers.Answer.{Answer}
use Rattle.trace_text.specs.Ranges.{IsBoard}
use Rattle.trace_text.proofs.Behind.{all_mapped}
use Rattle.trace_text.proofs.writing.answers.Goals as goal

pub each_answer-requires-clause-boards : goal.each_answer-requires-clause-boards
each_answer-requires-clause-boards c =
    all_mapped (λ (a : Answer). a.board) IsBoard c.args.answers.now c.requires.answers.1.each
