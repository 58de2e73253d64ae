use Rattle.std.proofs.Common.{List, subst}
use Rattle.class_relation.specs.Tables.{Table}
use Rattle.setup_text.specs.Drafts.{IsKnown}
use Rattle.setup_text.proofs.Drafts.{board_fits}
use Rattle.setup_text.proofs.board_line.board.Goals as goal

pub returns-clause-fits : goal.returns-clause-fits
returns-clause-fits c =
    board_fits c.args.draft.now c.in_ok-number.number (c.in_ok-table.table, c.in_ok-table.plain) c.in_ok-shape.shape
    c.in_ok-choose.choose c.in_ok-number.ensures.least c.in_ok-number.ensures.most
    (let P : List Table → Type 0 = λ ts. IsKnown ts (c.in_ok-table.table, c.in_ok-table.plain) in
    subst P c.tables.ensures c.in_ok-table.ensures.known) c.in_ok-shape.ensures.fits
