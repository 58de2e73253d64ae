use Rattle.fb_cli.specs.Show.{show}
use Rattle.fb_cli.proofs.Coming.{shown_comes, stops_come}
use Rattle.fb_cli.proofs.showing.show.Goals as goal

pub returns-in-Ok : goal.returns-in-Ok
returns-in-Ok g c =
    shown_comes c.args.name.now (g.F.Shelf.file c.args.shelf.now) _ c.in-Ok.setup _ c.in-Ok.ensures.ready
    c.in-Ok.ensures.setup c.written.ensures

pub returns : goal.returns
returns g c =
    let command = show c.args.name.now in
    stops_come command.opens command.refusal command.prints (g.F.Shelf.file c.args.shelf.now) _ c.in-Err.reply
    c.in-Err.ensures.ready
