use Rattle.std.proofs.Common.{arith}
use Rattle.class_relation.specs.Tables.{IsWhole}
use Rattle.setup_text.proofs.Writes.{table_more, all_more}
use Rattle.setup_text.proofs.writing.all_tables.Goals as goal

pub loop-table-preserved : goal.loop-table-preserved
loop-table-preserved c =
    let xs = c.args.tables.now in
    let i = c.loop-table.table-index in
    let t = c.table-item.result in
    record {
      bytes =
          table_more c.args.text.now.bytes c.loop-table.text.bytes c.append_table.new.text.bytes xs i t
          c.loop-table-test.true c.table-item.is c.loop-table.invariant.bytes c.append_table.ensures.written;
      room = omega arith;
      spare = omega arith;
      whole =
          all_more IsWhole xs i t c.loop-table-test.true c.table-item.is c.loop-table.invariant.whole
          c.append_table.ensures.whole;
    }
