use Rattle.std.proofs.Common.{[], ◌∷◌, rules}
use Rattle.setup_text.specs.Reading.{setup_at}
use Rattle.fb_cli.specs.declared.role.Role.{Role}
use Rattle.fb_cli.specs.Output.{with_file}
use Rattle.fb_cli.specs.Command.{file_on}
use Rattle.fb_cli.specs.Run.{turns_refusal}
use Rattle.fb_cli.proofs.Coming.{stops_first}
use Rattle.fb_cli.proofs.Ready.{run_ready}
use Rattle.fb_cli.proofs.running.ready.Goals as goal

pub returns-in-Ok-clause-ready : goal.returns-in-Ok-clause-ready
returns-in-Ok-clause-ready g c =
    run_ready c.args.name.now c.args.schedule.now (g.F.Shelf.file c.args.shelf.now) _ c.in-Ok.setup c.with_turns.result
    c.in-Ok.ensures.setup c.with_turns.ensures.setup c.with_turns.ensures.accepted (search rules) (search rules)

pub returns-in-Err-clause-ready : goal.returns-in-Err-clause-ready
returns-in-Err-clause-ready g c =
    let name = c.args.name.now in
    let schedule = c.args.schedule.now in
    stops_first name (file_on Role.Schedule name (λ s. Unit {0}) ∷ []) (with_file Role.Setup setup_at)
    (λ file s. turns_refusal s (file schedule)) (g.F.Shelf.file c.args.shelf.now) _ c.in-Err.reply
    c.in-Err.ensures.stops
