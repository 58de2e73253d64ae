use Rattle.setup_text.proofs.LineSteps.{line_of_word}
use Rattle.setup_text.proofs.reading.line.Goals as goal

pub returns-clause-exact : goal.returns-clause-exact
returns-clause-exact c =
    let u = c.args.scan.now in
    line_of_word c.args.draft.now c.line_after.new.draft c.line_after.result u.line u.words u.lines u.end
    c.next_word.new.self c.line_after.new.scan c.in-Some.word.now c.in-Some.ensures.word c.next_word.ensures.after
    c.line_after.ensures.exact
