use Rattle.table_text.specs.Writing.{written_table}
use Rattle.table_library.specs.Protocols.{protocol_table}
use Rattle.fb_cli.proofs.Coming.{said_comes}
use Rattle.fb_cli.proofs.library.library.Goals as goal

pub returns : goal.returns
returns c =
    rw c.of.ensures (said_comes (written_table (protocol_table c.args.kind)) c.known.result c.known.ensures)
