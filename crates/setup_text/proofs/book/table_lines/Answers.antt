use Rattle.std.proofs.Common.{[], ◌∷◌, ◌++◌, ◌∙◌}
use Rattle.std.proofs.lemmas.Result.{err_from_is_err_and}
use Rattle.setup_text.specs.Reading.{BookMode, book_lines, whole_table}
use Rattle.setup_text.proofs.LineSteps.{book_begun, book_table, table_read, table_failed}
use Rattle.setup_text.proofs.book.table_lines.Goals as goal

pub returns-in_err-table-clause-exact : goal.returns-in_err-table-clause-exact
returns-in_err-table-clause-exact c =
    let p = err_from_is_err_and c.from_residual-in_err-table.result c.from_residual-in_err-table.ensures.1 in
    let begun = book_begun c.args.tables.now c.args.scan.now c.this_word.new.scan c.in_ok-this_word.ensures.value
    c.in_ok-this_word.ensures.stays in
    rw (p.1, p.2) (table_failed c.in_err-table.field-0.0 _ (whole_table c.args.tables.now c.this_word.new.scan) _
    (begun ∙ book_table c.args.tables.now c.this_word.new.scan) c.in_err-table.ensures.exact)

pub returns-clause-exact : goal.returns-clause-exact
returns-clause-exact c =
    let begun = book_begun c.args.tables.now c.args.scan.now c.this_word.new.scan c.in_ok-this_word.ensures.value
    c.in_ok-this_word.ensures.stays in
    rw c.in_ok-push.ensures.ok
    (table_read book_lines (λ t. BookMode.whole (c.args.tables.now ++ t ∷ [])) c.in_ok-table.table c.table.new.scan
    _ (whole_table c.args.tables.now c.this_word.new.scan)
    (begun ∙ book_table c.args.tables.now c.this_word.new.scan) c.in_ok-table.ensures.exact)
