use Rattle.std.proofs.Common.{sym, ◌∙◌}
use Rattle.setup_text.specs.Reading.{ended}
use Rattle.setup_text.proofs.LineSteps.{ended_more, setup_none}
use Rattle.setup_text.proofs.reading.text_end.Goals as goal

pub returns-then-next_line : goal.returns-then-next_line
returns-then-next_line c =
    let u = c.args.scan.now in
    rw c.bad.ensures (ended_more c.args.draft u.line u.words u.lines u.end c.next_line.new.self
    (sym c.next_line.ensures.found ∙ c.if-next_line.true) c.next_line.ensures.after)

pub returns : goal.returns
returns c =
    let u = c.args.scan.now in
    rw c.finish.ensures (setup_none (ended c.args.draft) u.line u.words u.lines u.end
    (sym c.next_line.ensures.found ∙ c.if-next_line.false))
