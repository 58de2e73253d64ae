use Rattle.backplane.proofs.Opening.{first-refused, accepted-more}
use Rattle.backplane.proofs.assembling.accepted.Goals as goal

pub loop-i-preserved : goal.loop-i-preserved
loop-i-preserved c =
    accepted-more c.args.tables.now c.loop-i.all.items c.push.new.self.items c.loop-i.i c.index-tables-i.result
    c.in-Ok.table c.loop-i-test.true c.index-tables-i.is c.loop-i.invariant c.in-Ok.ensures.same
    c.in-Ok.ensures.accepted c.in-Ok-push.ensures.items

pub returns-in-Err-clause-refused : goal.returns-in-Err-clause-refused
returns-in-Err-clause-refused c =
    first-refused c.args.tables.now c.loop-i.i c.index-tables-i.result c.in-Err.fault c.loop-i-test.true
    c.index-tables-i.is c.loop-i.invariant.1 c.in-Err.ensures.refused
