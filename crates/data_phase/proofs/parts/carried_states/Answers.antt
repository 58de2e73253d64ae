use Rattle.std.proofs.Common.{◌≡◌, ◌<◌, length, get_or}
use Rattle.bus_model.specs.Carrying.{master_state}
use Rattle.data_phase.proofs.Lists.{states-above}
use Rattle.data_phase.proofs.parts.carried_states.Goals as goal

pub push-requires-in-loop-answer-clause-above : goal.push-requires-in-loop-answer-clause-above
push-requires-in-loop-answer-clause-above c =
    let items = c.items-answer-items.ensures in
    let l : c.loop-answer.answer-index < length c.args.connected.now.answers =
    rw items.items at c.loop-answer-test.true in
    let is : c.answer-item.result
    ≡ get_or c.args.connected.now.answers c.loop-answer.answer-index c.answer-item.result =
    rw items.items at c.answer-item.is in
    rw c.loop-answer.invariant
    (states-above c.args.connected.now.answers c.loop-answer.answer-index c.answer-item.result
    (c.args.connected.now.master, master_state c.args.connected.now) l is items.rising)
