use Rattle.std.proofs.Common.{ℕ, List, subst, sym}
use Rattle.std.specs.Prelude.{IfSome}
use Rattle.fb_cli.specs.Command.{AreSetup}
use Rattle.fb_cli.specs.Run.{AreTurns}
use Rattle.fb_cli.specs.Traffic.{traffic}
use Rattle.fb_cli.proofs.Coming.{stops_come}
use Rattle.fb_cli.proofs.Moved.{traffic_comes}
use Rattle.fb_cli.proofs.traffic.traffic.Goals as goal

pub returns-in-Ok : goal.returns-in-Ok
returns-in-Ok g c =
    let files = g.F.Shelf.file c.args.shelf.now in
    let setup = c.in-Ok.scheduled.setup in
    let read = subst (λ (t : List ℕ).
    IfSome files (λ file. AreSetup setup (file c.args.name.now) × AreTurns setup t (file c.args.schedule.now)))
    (sym c.deref.ensures.value) c.in-Ok.ensures.read in
    rw c.of.ensures
    (traffic_comes c.args.name.now c.args.schedule.now files _ setup c.deref.result.now c.count_turns.result
    c.in-Ok.ensures.ready read c.count_turns.ensures)

pub returns : goal.returns
returns g c =
    let command = traffic c.args.name.now c.args.schedule.now in
    stops_come command.opens command.refusal command.prints (g.F.Shelf.file c.args.shelf.now) _ c.in-Err.reply
    c.in-Err.ensures.ready
