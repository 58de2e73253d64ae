use Rattle.std.proofs.Common.{subst}
use Rattle.std.specs.List.{AllByRecursion}
use Rattle.trace_text.specs.Ranges.{InRange}
use Rattle.fb_cli.proofs.Runs.{holds}
use Rattle.fb_cli.proofs.starting.whole_run_holds.Goals as goal

pub returns : goal.returns
returns c =
    let known = c.journal.ensures in
    let spelled = subst (AllByRecursion InRange) known.journal c.events_are_spelled.ensures in
    holds c.args.machine.now.setup c.args.machine.now.journal known.setup known.accepted known.run c.requires spelled
    c.run_texts_fit.ensures known.legal
