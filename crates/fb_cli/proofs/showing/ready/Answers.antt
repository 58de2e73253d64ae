use Rattle.std.proofs.Common.{[], None}
use Rattle.setup_text.specs.Reading.{setup_at}
use Rattle.fb_cli.specs.declared.role.Role.{Role}
use Rattle.fb_cli.specs.Output.{with_file}
use Rattle.fb_cli.proofs.Coming.{stops_first}
use Rattle.fb_cli.proofs.Ready.{show_free}
use Rattle.fb_cli.proofs.showing.ready.Goals as goal

pub returns-in-Ok-clause-ready : goal.returns-in-Ok-clause-ready
returns-in-Ok-clause-ready g c =
    show_free c.args.name.now (g.F.Shelf.file c.args.shelf.now) c.in-Ok.setup c.in-Ok.ensures.setup

pub returns-in-Err-clause-ready : goal.returns-in-Err-clause-ready
returns-in-Err-clause-ready g c =
    stops_first c.args.name.now [] (with_file Role.Setup setup_at) (λ file s. None)
    (g.F.Shelf.file c.args.shelf.now) _ c.in-Err.reply c.in-Err.ensures.stops
