use Rattle.std.proofs.Common.{sym, ◌∙◌}
use Rattle.std.proofs.lemmas.Result.{err_from_is_err_and}
use Rattle.setup_text.specs.Reading.{BookMode}
use Rattle.setup_text.proofs.LineSteps.{book_step, book_none, fails_to, no_tables, some_tables}
use Rattle.setup_text.proofs.book.book.Goals as goal

pub returns-in_err-table_lines : goal.returns-in_err-table_lines
returns-in_err-table_lines c =
    let p = err_from_is_err_and c.from_residual.result c.from_residual.ensures.1 in
    let u = c.loop-alloc.scan in
    let step = book_step (BookMode.whole c.loop-alloc.tables) u.line u.words u.lines u.end c.next_line.new.self
    (sym c.next_line.ensures.found ∙ c.loop-alloc-test.true) c.next_line.ensures.after in
    rw (p.1, p.2) (fails_to c.in_err-table_lines.field-0.0 _ _ (sym c.loop-alloc.invariant ∙ step)
    c.in_err-table_lines.ensures.exact)

pub loop-alloc-preserved : goal.loop-alloc-preserved
loop-alloc-preserved c =
    let u = c.loop-alloc.scan in
    let step = book_step (BookMode.whole c.loop-alloc.tables) u.line u.words u.lines u.end c.next_line.new.self
    (sym c.next_line.ensures.found ∙ c.loop-alloc-test.true) c.next_line.ensures.after in
    sym c.in_ok-table_lines.ensures.exact ∙ (sym step ∙ c.loop-alloc.invariant)

pub returns-then-len-eq0 : goal.returns-then-len-eq0
returns-then-len-eq0 c =
    let u = c.loop-alloc.scan in
    rw (c.bad.ensures, c.next_line.ensures.after)
    (sym c.loop-alloc.invariant
    ∙ (book_none (BookMode.whole c.loop-alloc.tables) u.line u.words u.lines u.end
    (sym c.next_line.ensures.found ∙ c.loop-alloc-test.false)
    ∙ no_tables c.loop-alloc.tables _ (sym c.len.ensures.len ∙ c.if-len-eq0.true)))

pub returns : goal.returns
returns c =
    let u = c.loop-alloc.scan in
    rw c.into_vec.ensures.tables
    (sym c.loop-alloc.invariant
    ∙ (book_none (BookMode.whole c.loop-alloc.tables) u.line u.words u.lines u.end
    (sym c.next_line.ensures.found ∙ c.loop-alloc-test.false)
    ∙ some_tables c.loop-alloc.tables _ (λ e. c.if-len-eq0.false (c.len.ensures.len ∙ e))))
