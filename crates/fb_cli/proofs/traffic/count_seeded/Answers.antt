use Rattle.fb_cli.proofs.Moved.{moved_seeded}
use Rattle.fb_cli.specs.Replies.{answer_output}
use Rattle.fb_cli.proofs.traffic.count_seeded.Goals as goal

pub returns : goal.returns
returns c =
    moved_seeded (answer_output c.moved.result) c.args.setup c.args.seed c.accesses-accesses.result
    c.in_ok-machine.machine c.play_seeded.new.machine c.moved.ensures c.in_ok-machine.ensures
    c.accesses-accesses.ensures.accesses c.play_seeded.ensures.played
