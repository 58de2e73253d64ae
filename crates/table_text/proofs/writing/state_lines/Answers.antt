use Rattle.std.specs.Prelude.{flat_map}
use Rattle.class_relation.specs.Tables.{local_events, bus_events}
use Rattle.table_text.specs.Writing.{local_line, snoop_line, state_lines}
use Rattle.table_text.proofs.Writes.{more_cells}
use Rattle.table_text.proofs.writing.state_lines.Goals as goal

pub returns-clause-bytes : goal.returns-clause-bytes
unfolding state_lines
returns-clause-bytes c =
    let t = c.args.table.now in
    let s = c.args.state in
    more_cells c.args.text.now.bytes c.local_lines.new.text.bytes c.snoop_lines.new.text.bytes
    (flat_map (local_line t s) local_events) (flat_map (snoop_line t s) bus_events) c.local_lines.ensures.bytes
    c.snoop_lines.ensures.bytes
