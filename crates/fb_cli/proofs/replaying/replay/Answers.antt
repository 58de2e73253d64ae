use Rattle.std.proofs.Common.{[], ◌∷◌, ◌≡◌, Err, true, rules}
use Rattle.std.specs.List.{list_all}
use Rattle.backplane.specs.Machine.{opened}
use Rattle.fb_cli.specs.declared.replaying.Replayed.{Replayed}
use Rattle.fb_cli.specs.declared.role.Role.{Role}
use Rattle.fb_cli.specs.Report.{is_accepted}
use Rattle.fb_cli.specs.Output.{with_accepted}
use Rattle.fb_cli.specs.Command.{file_on}
use Rattle.fb_cli.specs.Replay.{replay, trace_refusal}
use Rattle.fb_cli.proofs.Coming.{stops_come, stops_first}
use Rattle.fb_cli.proofs.Ready.{replay_comes, replay_ready}
use Rattle.fb_cli.proofs.replaying.replay.Goals as goal

pub returns-in-Ok-ended : goal.returns-in-Ok-ended
returns-in-Ok-ended g c =
    replay_comes c.args.name.now c.args.trace.now (g.F.Shelf.file c.args.shelf.now) _ c.in-Ok.setup
    c.in-Ok-ended.replayed.machine c.in-Ok-ended.replayed.room c.in-Ok.ensures.setup c.in-Ok.ensures.accepted
    (search rules)

pub returns-in-Ok : goal.returns-in-Ok
returns-in-Ok g c =
    let command = replay c.args.name.now c.args.trace.now in
    let files = g.F.Shelf.file c.args.shelf.now in
    stops_come command.opens command.refusal command.prints files _ c.in-Err-ended.reply
    (replay_ready {X = Replayed} c.args.name.now c.args.trace.now files _ c.in-Ok.setup (Err c.in-Err-ended.reply)
    c.in-Ok.ensures.setup c.in-Ok.ensures.accepted tt (search rules))

pub returns : goal.returns
returns g c =
    let name = c.args.name.now in
    let trace = c.args.trace.now in
    let command = replay name trace in
    let files = g.F.Shelf.file c.args.shelf.now in
    stops_come command.opens command.refusal command.prints files _ c.in-Err.reply
    (stops_first name (file_on Role.Trace name (λ s. list_all is_accepted s.tables ≡ true) ∷ []) with_accepted
    (λ file s. trace_refusal (opened s) (file trace)) files _ c.in-Err.reply c.in-Err.ensures.stops)
