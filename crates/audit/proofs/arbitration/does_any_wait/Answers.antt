use Rattle.std.proofs.Common.{arith, sym, ◌+◌, ◌∙◌}
use Rattle.bus_model.specs.Arbitration.{does_any_wait, is_waiting}
use Rattle.audit.proofs.Granting.{any-none, any-skip, any-stop}
use Rattle.audit.proofs.arbitration.does_any_wait.Goals as goal

pub returns-then-is_waiting : goal.returns-then-is_waiting
returns-then-is_waiting c =
    let low = c.loop-place-test.true in
    sym (any-stop (is_waiting c.args.served.now c.args.boards.now) c.args.boards.now c.loop-place.place
    (c.loop-place.place + 1) (does_any_wait c.args.served.now c.args.boards.now) (omega arith) (omega arith)
    c.loop-place.invariant (sym c.is_waiting.ensures ∙ c.if-is_waiting.true))

pub loop-place-preserved : goal.loop-place-preserved
loop-place-preserved c =
    let low = c.loop-place-test.true in
    any-skip (is_waiting c.args.served.now c.args.boards.now) c.args.boards.now c.loop-place.place
    (c.loop-place.place + 1) (does_any_wait c.args.served.now c.args.boards.now) (omega arith) (omega arith)
    c.loop-place.invariant (sym c.is_waiting.ensures ∙ c.if-is_waiting.false)

pub returns : goal.returns
returns c =
    let high = c.loop-place-test.false in
    sym (any-none (is_waiting c.args.served.now c.args.boards.now) c.args.boards.now c.loop-place.place
    (does_any_wait c.args.served.now c.args.boards.now) (omega arith) c.loop-place.invariant)
