use Rattle.std.proofs.Common.{arith}
use Rattle.table_library.specs.Traffic.{counts_at}
use Rattle.table_library.proofs.TrafficLines.{more_lines}
use Rattle.table_library.proofs.lines.board_lines.Goals as goal

pub loop-place-preserved : goal.loop-place-preserved
loop-place-preserved c =
    let was = c.loop-place.invariant in
    let is = c.board_line.ensures.appends in
    record {
      bytes =
          more_lines (counts_at c.args.report.now) c.loop-place.place c.board.result c.args.text.now.bytes
          c.loop-place.text.bytes c.board_line.new.text.bytes was.bytes is.bytes c.board.ensures;
      spare = omega (arith, was.spare, is.spare);
      kept = omega (arith, was.kept, is.kept);
    }
