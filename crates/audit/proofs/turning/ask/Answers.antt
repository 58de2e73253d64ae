use Rattle.std.proofs.Common.{refl}
use Rattle.audit.proofs.Asking.{above-last, below-more, below-push}
use Rattle.audit.proofs.turning.ask.Goals as goal

pub push-requires-clause-above : goal.push-requires-clause-above
push-requires-clause-above c = above-last _ _ c.requires.above

pub returns-then-is_other_holder-clause-below : goal.returns-then-is_other_holder-clause-below
returns-then-is_other_holder-clause-below c =
    rw c.push.ensures (below-push c.args.answers.now _ c.args.board refl c.requires.above)

pub returns-else-is_other_holder-clause-below : goal.returns-else-is_other_holder-clause-below
returns-else-is_other_holder-clause-below c = below-more _ _ c.requires.above
