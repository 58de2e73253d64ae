use Rattle.std.proofs.Common.{rules, Global, map, string_bytes}
use Rattle.fb_edge.specs.Outside.{Rose}
use Rattle.futurebus_c.proofs.Lent.{answered}
use Rattle.futurebus_c.proofs.responding.respond.Goals as goal

-- src/responding.rt:35:1
pub returns : goal.returns
returns c = λ asked is.
    answered (map (string_bytes {Z = Global}) c.deref.result.now) asked (search rules)
    c.new.result.first c.new.result.second c.args.first.now c.args.second.now
    c.new.ensures.first c.new.ensures.second
    c.new-sink.result.text c.plain-status.new.sink.text c.text.result.now
    c.new-sink.ensures c.text.ensures
    (Rose 0 0) (Rose c.new-sink.result.faults c.plain-status.new.sink.faults) (search rules)
    c.plain-status.result (search rules) c.plain-status.ensures
    c.give-2.new.buffer c.give-2.result.status c.give-2.result.count c.give-2.ensures
