use Rattle.std.proofs.Common.{◌∙◌, ap, arith}
use Rattle.bus_model.specs.Events.{Transaction}
use Rattle.bus_model.specs.Configuration as model
use Rattle.connect_phase.specs.Answering.{rack_answered}
use Rattle.backplane.specs.declared.phase.Phase.TheVariants.{Connected}
use Rattle.backplane.proofs.Counted.{spent-below, answered-fits}
use Rattle.backplane.proofs.Showing.{shown-connect}
use Rattle.backplane.proofs.parts.Parts.latch.Goals as goal

pub spend_all-requires-clause-draws : goal.spend_all-requires-clause-draws
spend_all-requires-clause-draws c = spent-below c.args.self.now.rack.counts c.requires.counts.counts

pub spend-requires-clause-draws : goal.spend-requires-clause-draws
spend-requires-clause-draws c =
    answered-fits c.args.self.now.rack c.spend_all.new.rack c.args.connected.now.answers c.args.connected.now.master
    (c.spend_all.ensures ∙ ap (rack_answered c.args.self.now.rack) c.items.ensures.items)
    (let few = c.items.ensures.short in omega arith) c.requires.counts.counts

pub returns : goal.returns
returns c = λ setup x s.
    shown-connect setup x c.args.self.now c.spend_all.new.rack c.spend.new.self (Connected c.copy.result)
    c.args.connected.now
    (c.spend_all.ensures ∙ ap (rack_answered c.args.self.now.rack) c.items.ensures.items) c.spend.ensures
    (ap (λ (t : Transaction). model.Connected t) c.copy.ensures) s
