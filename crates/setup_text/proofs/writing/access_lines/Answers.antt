use Rattle.std.proofs.Common.{arith}
use Rattle.setup_text.specs.Spelling.{access_row, AccessFits}
use Rattle.setup_text.proofs.Writes.{row_more, all_more}
use Rattle.setup_text.proofs.writing.access_lines.Goals as goal

pub loop-access-preserved : goal.loop-access-preserved
loop-access-preserved c =
    let xs = c.args.script.now in
    let i = c.loop-access.access-index in
    record {
      bytes =
          row_more access_row c.args.text.now.bytes c.loop-access.text.bytes c.access_line.new.text.bytes xs i
          c.access-item.result c.loop-access-test.true c.access-item.is c.loop-access.invariant.bytes
          c.access_line.ensures.bytes;
      room = omega arith;
      spare = omega arith;
      fits =
          all_more AccessFits xs i c.access-item.result c.loop-access-test.true c.access-item.is
          c.loop-access.invariant.fits c.access_line.ensures.fits;
    }
