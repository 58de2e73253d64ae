use Rattle.table_text.proofs.Bytes.{goes_on}
use Rattle.table_text.proofs.reading.read_table.Goals as goal

pub returns-clause-goes_on : goal.returns-clause-goes_on
returns-clause-goes_on c = goes_on c.args.name c.args.scan.now c.table.new.scan c.table.result c.table.ensures
