use Rattle.std.proofs.Common.{◌∙◌}
use Rattle.trace_text.proofs.Lines.{line_again, first_is, some_is, none_is}
use Rattle.trace_text.proofs.reading.read_event.Goals as goal

pub returns-clause-spelled : goal.returns-clause-spelled
returns-clause-spelled c = some_is c.args.line.now c.found.result c.found.ensures

pub returns-clause-only : goal.returns-clause-only
returns-clause-only c = λ e in_range is. c.found.ensures ∙ line_again c.args.line.now e in_range is

pub returns-clause-none : goal.returns-clause-none
returns-clause-none c = none_is c.args.line.now c.found.result c.found.ensures

pub returns-clause-again : goal.returns-clause-again
returns-clause-again c =
    λ e rest in_range is. c.found.ensures ∙ line_again c.args.line.now e in_range (is ∙ first_is e rest in_range)
