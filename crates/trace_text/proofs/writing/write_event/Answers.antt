use Rattle.trace_text.proofs.Behind.{line_written}
use Rattle.trace_text.proofs.Lengths.{line_length}
use Rattle.trace_text.proofs.Lines.{begins_none}
use Rattle.trace_text.proofs.writing.write_event.Goals as goal

pub returns-clause-line : goal.returns-clause-line
returns-clause-line c =
    line_written c.args.text.now.bytes c.event_text.new.text.bytes c.byte.new.self.bytes c.args.event.now
    c.event_text.ensures.appends.bytes c.byte.ensures.bytes

pub returns-clause-short : goal.returns-clause-short
returns-clause-short c = line_length c.args.event.now c.requires.in_range

pub returns-clause-alone : goal.returns-clause-alone
returns-clause-alone c =
    λ other rest in_range is. begins_none c.args.event.now other rest c.requires.in_range in_range is
