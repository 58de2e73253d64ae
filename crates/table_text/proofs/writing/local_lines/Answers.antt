use Rattle.std.proofs.Common.{arith}
use Rattle.bus_signals.specs.declared.LocalEvent.TheVariants.{Read}
use Rattle.table_text.specs.Writing.{local_line}
use Rattle.table_text.proofs.Writes.{first_line, more_lines}
use Rattle.table_text.proofs.writing.local_lines.Goals as goal

pub loop-event-init : goal.loop-event-init
loop-event-init c =
    record { bytes = first_line c.args.text.now.bytes; room = omega (arith, c.requires); spare = omega arith }

pub loop-event-preserved : goal.loop-event-preserved
loop-event-preserved c =
    let was = c.loop-event.invariant in
    let line = c.local_line.ensures in
    record {
      bytes =
          more_lines (local_line c.args.table.now c.args.state) c.args.events.now c.loop-event.event-index Read
          c.args.text.now.bytes c.loop-event.text.bytes c.local_line.new.text.bytes c.loop-event-test.true was.bytes
          line.bytes;
      room = omega (arith, was.room, line.spare);
      spare = omega (arith, was.spare, line.spare);
    }
