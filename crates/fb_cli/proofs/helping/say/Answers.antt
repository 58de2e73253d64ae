use Rattle.fb_cli.proofs.Coming.{said_comes}
use Rattle.fb_cli.proofs.helping.say.Goals as goal

pub returns : goal.returns
returns c = rw c.of.ensures (said_comes c.args.words.now c.saying.result c.saying.ensures)
