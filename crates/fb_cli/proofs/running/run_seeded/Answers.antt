use Rattle.fb_cli.specs.Run.{run_seeded}
use Rattle.fb_cli.proofs.Coming.{seeded_comes, stops_come}
use Rattle.fb_cli.proofs.running.run_seeded.Goals as goal

pub returns-in-Ok : goal.returns-in-Ok
returns-in-Ok g c =
    rw c.of.ensures
    (seeded_comes c.args.name.now c.args.seed (g.F.Shelf.file c.args.shelf.now) _ c.in-Ok.setup c.play_seed.result
    c.in-Ok.ensures.ready c.in-Ok.ensures.setup c.play_seed.ensures.output c.play_seed.ensures.run)

pub returns : goal.returns
returns g c =
    let command = run_seeded c.args.name.now c.args.seed in
    stops_come command.opens command.refusal command.prints (g.F.Shelf.file c.args.shelf.now) _ c.in-Err.reply
    c.in-Err.ensures.ready
