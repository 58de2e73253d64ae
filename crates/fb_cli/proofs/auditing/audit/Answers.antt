use Rattle.fb_cli.specs.Audit.{audit}
use Rattle.fb_cli.proofs.Coming.{stops_come}
use Rattle.fb_cli.proofs.auditing.audit.Goals as goal

pub returns : goal.returns
returns g c =
    let command = audit c.args.name.now c.args.schedule.now in
    stops_come command.opens command.refusal command.prints (g.F.Shelf.file c.args.shelf.now) _ c.in-Err.reply
    c.in-Err.ensures.ready
