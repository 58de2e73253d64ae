use Rattle.fb_cli.specs.Traffic.{traffic_seeded}
use Rattle.fb_cli.proofs.Coming.{stops_come}
use Rattle.fb_cli.proofs.Moved.{seeded_traffic_comes}
use Rattle.fb_cli.proofs.traffic.traffic_seeded.Goals as goal

pub returns-in-Ok : goal.returns-in-Ok
returns-in-Ok g c =
    rw c.of.ensures
    (seeded_traffic_comes c.args.name.now c.args.seed (g.F.Shelf.file c.args.shelf.now) _ c.in-Ok.setup
    c.count_seeded.result c.in-Ok.ensures.ready c.in-Ok.ensures.setup c.count_seeded.ensures)

pub returns : goal.returns
returns g c =
    let command = traffic_seeded c.args.name.now c.args.seed in
    stops_come command.opens command.refusal command.prints (g.F.Shelf.file c.args.shelf.now) _ c.in-Err.reply
    c.in-Err.ensures.ready
