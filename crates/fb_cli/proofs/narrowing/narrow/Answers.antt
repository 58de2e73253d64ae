use Rattle.fb_cli.specs.Narrow.{narrow}
use Rattle.fb_cli.proofs.Coming.{stops_come}
use Rattle.fb_cli.proofs.Narrowed.{narrow_comes}
use Rattle.fb_cli.proofs.narrowing.narrow.Goals as goal

pub returns-in-Ok : goal.returns-in-Ok
returns-in-Ok g c =
    rw c.of.ensures
    (narrow_comes c.args.name.now (g.F.Shelf.file c.args.shelf.now) _ c.in-Ok.narrowed c.spelled.result
    c.in-Ok.ensures.ready c.in-Ok.ensures.narrowed c.spelled.ensures)

pub returns : goal.returns
returns g c =
    let command = narrow c.args.name.now in
    stops_come command.opens command.refusal command.prints (g.F.Shelf.file c.args.shelf.now) _ c.in-Err.reply
    c.in-Err.ensures.ready
