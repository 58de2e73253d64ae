use Rattle.std.proofs.Common.{None, subst}
use Rattle.setup_text.specs.Writing.{written_setup}
use Rattle.fb_cli.proofs.Coming.{printing_comes}
use Rattle.fb_cli.specs.Command.{printing}
use Rattle.fb_cli.specs.Replies.{Comes}
use Rattle.fb_cli.proofs.making.make.Goals as goal

pub returns-in-Ok : goal.returns-in-Ok
returns-in-Ok c =
    subst (λ setup. Comes (printing (written_setup setup)) None ⊥ c.written.result) c.in-Ok.ensures
    (printing_comes (written_setup c.in-Ok.setup) c.written.result c.written.ensures)
