use Rattle.fb_cli.specs.Replies.{reply_output}
use Rattle.fb_cli.proofs.commands.top.Goals as goal

pub returns : goal.returns
returns g c = (reply_output c.respond_to_all-came.result, c.respond_to_all-came.ensures, c.print_reply.ensures)
