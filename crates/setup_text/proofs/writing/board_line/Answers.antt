use Rattle.std.proofs.Common.{[]}
use Rattle.setup_text.proofs.Writes.{board_written}
use Rattle.setup_text.proofs.writing.board_line.Goals as goal

pub returns-clause-bytes : goal.returns-clause-bytes
returns-clause-bytes c =
    let b = c.args.board.now in
    let line = board_written c.args.text.now.bytes
    (record {
      place = c.args.place;
      number = b.number;
      table = c.args.table.now;
      shape = b.shape;
      choose = b.choose;
      script = [];
    }) in
    cc
