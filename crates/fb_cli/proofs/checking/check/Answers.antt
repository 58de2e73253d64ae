use Rattle.fb_cli.specs.Check.{check}
use Rattle.fb_cli.proofs.Coming.{stops_come}
use Rattle.fb_cli.proofs.Ready.{check_comes}
use Rattle.fb_cli.proofs.checking.check.Goals as goal

pub returns-in-Ok : goal.returns-in-Ok
returns-in-Ok g c =
    check_comes c.args.name.now (g.F.Shelf.file c.args.shelf.now) _ c.in-Ok.text c.in-Ok.ensures.ready
    c.in-Ok.ensures.report

pub returns : goal.returns
returns g c =
    let command = check c.args.name.now in
    stops_come command.opens command.refusal command.prints (g.F.Shelf.file c.args.shelf.now) _ c.in-Err.reply
    c.in-Err.ensures.ready
