use Rattle.std.proofs.Common.{arith}
use Rattle.moesi_state.specs.declared.State.TheVariants.{M}
use Rattle.table_text.specs.Writing.{state_lines}
use Rattle.table_text.proofs.Writes.{first_line, more_lines}
use Rattle.table_text.proofs.writing.lines_of_states.Goals as goal

pub loop-state-init : goal.loop-state-init
loop-state-init c =
    record { bytes = first_line c.args.text.now.bytes; room = omega (arith, c.requires); spare = omega arith }

pub loop-state-preserved : goal.loop-state-preserved
loop-state-preserved c =
    let was = c.loop-state.invariant in
    let line = c.state_lines.ensures in
    record {
      bytes =
          more_lines (state_lines c.args.table.now) c.args.states.now c.loop-state.state-index M c.args.text.now.bytes
          c.loop-state.text.bytes c.state_lines.new.text.bytes c.loop-state-test.true was.bytes line.bytes;
      room = omega (arith, was.room, line.spare);
      spare = omega (arith, was.spare, line.spare);
    }
