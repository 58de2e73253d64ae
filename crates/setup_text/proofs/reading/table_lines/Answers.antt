use Rattle.std.proofs.Common.{◌∙◌}
use Rattle.std.proofs.lemmas.Result.{err_from_is_err_and}
use Rattle.setup_text.specs.Reading.{body, lines_at, whole_table}
use Rattle.setup_text.specs.Drafts.{with_table}
use Rattle.setup_text.proofs.LineSteps.{head_begun, no_boards, setup_table, table_read, table_failed}
use Rattle.setup_text.proofs.reading.table_lines.Goals as goal

pub returns-in_err-table-clause-exact : goal.returns-in_err-table-clause-exact
returns-in_err-table-clause-exact c =
    let p = err_from_is_err_and c.from_residual.result c.from_residual.ensures.1 in
    let d = c.args.draft.now in
    let u = c.args.scan.now in
    rw (p.1, p.2) (table_failed c.in_err-table.field-0.0 _ (whole_table d.tables u) _
    (head_begun d u (no_boards d c.boards.result.now c.boards.ensures.boards c.if-boards-gt0.false)
    ∙ setup_table d u) (rw c.tables.ensures at c.in_err-table.ensures.exact))

pub returns-clause-exact : goal.returns-clause-exact
returns-clause-exact c =
    let d = c.args.draft.now in
    let u = c.args.scan.now in
    rw c.in_ok-push_table.ensures
    (table_read lines_at (λ t. body (with_table d t)) c.in_ok-table.table c.table.new.scan _
    (whole_table d.tables u) (head_begun d u
    (no_boards d c.boards.result.now c.boards.ensures.boards c.if-boards-gt0.false) ∙ setup_table d u)
    (rw c.tables.ensures at c.in_ok-table.ensures.exact))
