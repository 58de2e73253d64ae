use Rattle.std.proofs.Common.{None, subst, sym}
use Rattle.fb_cli.specs.declared.answers.Reply.{Reply}
use Rattle.fb_cli.specs.Replies.{Comes}
use Rattle.fb_cli.specs.Fileless.{counts_of, tally}
use Rattle.fb_cli.proofs.Coming.{said_comes}
use Rattle.fb_cli.proofs.tallying.tally.Goals as goal

pub returns : goal.returns
returns c =
    subst (λ (r : Reply). Comes (tally c.args.seed) None ⊥ r) (sym c.of.ensures)
    (said_comes (counts_of c.args.seed) c.counts.result c.counts.ensures)
