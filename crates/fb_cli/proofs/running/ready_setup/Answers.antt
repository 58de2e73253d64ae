use Rattle.std.proofs.Common.{[], None}
use Rattle.fb_cli.specs.Output.{with_accepted}
use Rattle.fb_cli.proofs.Coming.{stops_first}
use Rattle.fb_cli.proofs.Ready.{race_free}
use Rattle.fb_cli.proofs.running.ready_setup.Goals as goal

pub returns-in-Ok-clause-ready : goal.returns-in-Ok-clause-ready
returns-in-Ok-clause-ready g c =
    race_free c.args.name.now (g.F.Shelf.file c.args.shelf.now) c.in-Ok.setup c.in-Ok.ensures.setup
    c.in-Ok.ensures.accepted

pub returns-in-Err-clause-ready : goal.returns-in-Err-clause-ready
returns-in-Err-clause-ready g c =
    stops_first c.args.name.now [] with_accepted (λ file s. None) (g.F.Shelf.file c.args.shelf.now) _ c.in-Err.reply
    c.in-Err.ensures.stops
