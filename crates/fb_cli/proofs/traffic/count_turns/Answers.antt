use Rattle.fb_cli.proofs.Moved.{moved_output}
use Rattle.fb_cli.specs.Replies.{answer_output}
use Rattle.fb_cli.proofs.traffic.count_turns.Goals as goal

pub returns : goal.returns
returns c =
    moved_output (answer_output c.moved.result) c.args.setup c.args.turns.now c.in_ok-machine.machine c.play.new.machine
    c.moved.ensures c.in_ok-machine.ensures c.play.ensures.played
