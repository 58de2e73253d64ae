use Rattle.std.proofs.Common.{◌≡◌, [], ◌∷◌, true, rules}
use Rattle.std.specs.List.{list_all}
use Rattle.backplane.specs.Machine.{opened}
use Rattle.fb_cli.specs.declared.role.Role.{Role}
use Rattle.fb_cli.specs.Report.{is_accepted}
use Rattle.fb_cli.specs.Output.{with_accepted}
use Rattle.fb_cli.specs.Command.{file_on}
use Rattle.fb_cli.specs.Replay.{trace_refusal}
use Rattle.fb_cli.proofs.Coming.{stops_first}
use Rattle.fb_cli.proofs.Ready.{replay_ready}
use Rattle.fb_cli.proofs.replaying.ready.Goals as goal

pub returns-in-Ok : goal.returns-in-Ok
returns-in-Ok g c =
    replay_ready c.args.name.now c.args.trace.now (g.F.Shelf.file c.args.shelf.now) _ c.in-Ok.setup c.kept.result
    c.in-Ok.ensures.setup c.in-Ok.ensures.accepted (search rules) (search rules)

pub returns-in-Err : goal.returns-in-Err
returns-in-Err g c =
    let name = c.args.name.now in
    let trace = c.args.trace.now in
    stops_first name (file_on Role.Trace name (λ s. list_all is_accepted s.tables ≡ true) ∷ []) with_accepted
    (λ file s. trace_refusal (opened s) (file trace)) (g.F.Shelf.file c.args.shelf.now) _ c.in-Err.reply
    c.in-Err.ensures.stops
