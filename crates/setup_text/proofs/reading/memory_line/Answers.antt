use Rattle.std.proofs.Common.{sym, ◌∙◌}
use Rattle.setup_text.specs.Reading.{start, headed, lines_at, first_line}
use Rattle.setup_text.proofs.LineSteps.{setup_begins, setup_none, line_goes, goes_on_to}
use Rattle.setup_text.proofs.reading.memory_line.Goals as goal

pub returns-then-not-next_line : goal.returns-then-not-next_line
returns-then-not-next_line c =
    let u = c.args.scan.now in
    rw (c.bad.ensures, c.next_line.ensures.after)
    (setup_none start u.line u.words u.lines u.end (sym c.next_line.ensures.found ∙ c.if-not-next_line.true))

pub returns : goal.returns
returns c =
    let u = c.args.scan.now in
    let step = setup_begins u.line u.words u.lines u.end c.next_line.new.self
    (sym c.next_line.ensures.found ∙ c.if-not-next_line.false) c.next_line.ensures.after in
    goes_on_to lines_at (λ d. headed d) c.memory_rest.result c.memory_rest.new.scan _ _ step
    (line_goes lines_at (λ d. headed d) c.memory_rest.result c.next_line.new.self c.memory_rest.new.scan
    (first_line c.next_line.new.self.words) c.memory_rest.ensures.value c.memory_rest.ensures.stays)
