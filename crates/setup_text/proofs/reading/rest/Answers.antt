use Rattle.std.proofs.Common.{sym, ◌∙◌}
use Rattle.std.proofs.lemmas.Result.{err_from_is_err_and}
use Rattle.setup_text.specs.Reading.{body}
use Rattle.setup_text.proofs.LineSteps.{setup_step, setup_none, fails_to, answers_to, ends_by, goes_by}
use Rattle.setup_text.proofs.reading.rest.Goals as goal

pub returns-in_err-line : goal.returns-in_err-line
returns-in_err-line c =
    let p = err_from_is_err_and c.from_residual.result c.from_residual.ensures.1 in
    let u = c.loop-alloc.scan in
    let step = setup_step (body c.loop-alloc.draft) u.line u.words u.lines u.end c.next_line.new.self
    (sym c.next_line.ensures.found ∙ c.loop-alloc-test.true) c.next_line.ensures.after in
    rw (p.1, p.2) (fails_to c.in_err-line.field-0.0 _ _ (sym c.loop-alloc.invariant ∙ step) c.in_err-line.ensures.exact)

pub returns-then-branch : goal.returns-then-branch
returns-then-branch c =
    let u = c.loop-alloc.scan in
    let step = setup_step (body c.loop-alloc.draft) u.line u.words u.lines u.end c.next_line.new.self
    (sym c.next_line.ensures.found ∙ c.loop-alloc-test.true) c.next_line.ensures.after in
    answers_to (λ s. s) c.text_end.result _ _
    (sym c.loop-alloc.invariant
    ∙ (step
    ∙ ends_by c.line.new.draft c.in_ok-line.field-0 c.line.new.scan _ c.if-branch.true
    c.in_ok-line.ensures.exact)) c.text_end.ensures

pub loop-alloc-preserved : goal.loop-alloc-preserved
loop-alloc-preserved c =
    let u = c.loop-alloc.scan in
    let step = setup_step (body c.loop-alloc.draft) u.line u.words u.lines u.end c.next_line.new.self
    (sym c.next_line.ensures.found ∙ c.loop-alloc-test.true) c.next_line.ensures.after in
    sym (goes_by c.line.new.draft c.in_ok-line.field-0 c.line.new.scan _ c.if-branch.false c.in_ok-line.ensures.exact)
    ∙ (sym step ∙ c.loop-alloc.invariant)

pub returns : goal.returns
returns c =
    let u = c.loop-alloc.scan in
    rw (c.bad.ensures, c.next_line.ensures.after)
    (sym c.loop-alloc.invariant
    ∙ setup_none (body c.loop-alloc.draft) u.line u.words u.lines u.end
    (sym c.next_line.ensures.found ∙ c.loop-alloc-test.false))
