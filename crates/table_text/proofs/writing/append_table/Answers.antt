use Rattle.table_text.proofs.Writes.{table_written}
use Rattle.table_text.proofs.writing.append_table.Goals as goal

pub returns-clause-written : goal.returns-clause-written
returns-clause-written c =
    table_written c.args.text.now.bytes c.head.new.text.bytes c.all_lines.new.text.bytes c.push.new.self.bytes
    c.args.table.now c.head.ensures.bytes c.all_lines.ensures.bytes c.push.ensures.bytes
