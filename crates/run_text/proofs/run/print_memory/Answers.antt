use Rattle.std.proofs.lemmas.Result.{err_from_is_err_and}
use Rattle.std.proofs.Common.{arith}
use Rattle.run_text.specs.RunText.{memory_of}
use Rattle.bus_model.specs.Setup.{line_count}
use Rattle.backplane.specs.Machine.{configuration}
use Rattle.run_text.proofs.Behind.{failed-behind, whole-behind}
use Rattle.run_text.proofs.Numbers.{numbers-at, numbers-more}
use Rattle.run_text.proofs.run.print_memory.Goals as goal

pub returns-in_err-print_memory_line : goal.returns-in_err-print_memory_line
returns-in_err-print_memory_line g c =
    let p = err_from_is_err_and c.from_residual.result c.from_residual.ensures.1 in
    let lines = c.lines-number-end.ensures in
    let test = c.loop-number-test.true in
    let r = numbers-at (memory_of (configuration c.args.machine.now)) (line_count c.args.machine.now.setup)
    c.loop-number.number (omega (arith, lines, test)) in
    record {
      paged = rw (p.1, p.2) (
          failed-behind r.0 _ c.in_err-print_memory_line.field-0.0 r.1
          c.loop-number.invariant.paged c.in_err-print_memory_line.ensures.paged);
    }

pub loop-number-preserved : goal.loop-number-preserved
loop-number-preserved g c = record {
  paged =
      whole-behind c.in_ok-print_memory_line.field-0
      (numbers-more (memory_of (configuration c.args.machine.now)) c.loop-number.number) c.loop-number.invariant.paged
      c.in_ok-print_memory_line.ensures.paged;
}
