use Rattle.table_text.specs.Writing.{cells_of}
use Rattle.table_text.proofs.writing.all_lines.Goals as goal

pub returns-clause-bytes : goal.returns-clause-bytes
unfolding cells_of
returns-clause-bytes c = c.lines_of_states.ensures.bytes
