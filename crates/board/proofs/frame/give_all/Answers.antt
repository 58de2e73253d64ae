use Rattle.board.proofs.Takings.{drop-head}
use Rattle.board.proofs.frame.give_all.Goals as goal

pub give-requires : goal.give-requires
give-requires c = drop-head _ _ c.loop-f.f-index _ c.loop-f-test.true c.loop-f.invariant.out
