use Rattle.std.proofs.Common.{◌∙◌}
use Rattle.fb_cli.proofs.Exhibited.{exhibit_places}
use Rattle.fb_cli.proofs.exhibiting.ready.Goals as goal

pub judge_turns-requires : goal.judge_turns-requires
judge_turns-requires c =
    exhibit_places c.args.number c.in-Ok.setup c.deref.result.now c.requires.low c.requires.high c.in-Ok.ensures.setup
    (c.deref.ensures.value ∙ c.in-Ok.ensures.schedule)
