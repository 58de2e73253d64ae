use Rattle.setup_text.proofs.TableLines.{is_named, is_shorter}
use Rattle.setup_text.proofs.table_lines.rest.Goals as goal

pub returns-in-Ok-clause-name : goal.returns-in-Ok-clause-name
returns-in-Ok-clause-name c =
    is_named c.args.name c.args.scan.now c.read_table.new.scan c.in-Ok.table c.in-Ok.ensures.spelled

pub returns-in-Ok-clause-shorter : goal.returns-in-Ok-clause-shorter
returns-in-Ok-clause-shorter c =
    is_shorter c.args.name c.args.scan.now (c.in-Ok.table, c.read_table.new.scan) c.in-Ok.ensures.exact
