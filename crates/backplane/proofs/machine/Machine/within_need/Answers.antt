use Rattle.std.specs.Prelude.{vec_capacity}
use Rattle.backplane.proofs.Few.{replies-within, rows-within}
use Rattle.backplane.proofs.machine.Machine.within_need.Goals as goal

pub returns-clause-replies : goal.returns-clause-replies
returns-clause-replies c =
    let m = c.self.inside in
    replies-within m.setup m.journal.items (vec_capacity m.journal) m.parts m.histories c.args.self.now c.self.invariant
    c.self.view_is

pub returns-clause-rows : goal.returns-clause-rows
returns-clause-rows c =
    let m = c.self.inside in
    rows-within m.setup m.journal.items (vec_capacity m.journal) m.parts m.histories c.args.self.now _ c.self.invariant
    c.self.view_is c.pool-pool.ensures.rows c.pool-pool.ensures.all
