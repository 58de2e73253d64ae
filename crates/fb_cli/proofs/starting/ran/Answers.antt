use Rattle.std.proofs.Common.{refl}
use Rattle.fb_cli.proofs.starting.ran.Goals as goal

pub returns-clause-run : goal.returns-clause-run
returns-clause-run c = record { events = c.args.machine.journal; holds = c.whole_run_holds.ensures; text = refl }
