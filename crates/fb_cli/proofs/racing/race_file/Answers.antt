use Rattle.fb_cli.specs.Run.{race}
use Rattle.fb_cli.proofs.Coming.{race_comes, stops_come}
use Rattle.fb_cli.proofs.racing.race_file.Goals as goal

pub returns-in-Ok : goal.returns-in-Ok
returns-in-Ok g c =
    rw c.of.ensures
    (race_comes c.args.name.now (g.F.Shelf.file c.args.shelf.now) _ c.in-Ok.setup c.raced.result
    c.in-Ok.ensures.ready c.in-Ok.ensures.setup c.raced.ensures.done c.raced.ensures.run)

pub returns : goal.returns
returns g c =
    let command = race c.args.name.now in
    stops_come command.opens command.refusal command.prints (g.F.Shelf.file c.args.shelf.now) _ c.in-Err.reply
    c.in-Err.ensures.ready
