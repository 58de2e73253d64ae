use Rattle.std.proofs.Common.{ap, sym, ◌∙◌}
use Rattle.std.proofs.lemmas.Result.{err_from_is_err_and}
use Rattle.setup_text.specs.Reading.{headed, setup_at}
use Rattle.setup_text.proofs.LineSteps.{setup_step, setup_none, fails_to, answers_to, ends_by, goes_by}
use Rattle.setup_text.proofs.reading.setup.Goals as goal

pub returns-then-not-next_line : goal.returns-then-not-next_line
returns-then-not-next_line c =
    let u = c.memory_line.new.scan in
    let begun = sym (ap setup_at c.over-scan.ensures) ∙ c.in_ok-draft.ensures in
    rw (c.bad.ensures, c.next_line.ensures.after)
    (begun
    ∙ setup_none (headed c.in_ok-draft.draft) u.line u.words u.lines u.end
    (sym c.next_line.ensures.found ∙ c.if-not-next_line.true))

pub returns-in_err-second_line : goal.returns-in_err-second_line
returns-in_err-second_line c =
    let p = err_from_is_err_and c.from_residual-in_err-second_line.result c.from_residual-in_err-second_line.ensures.1 in
    let u = c.memory_line.new.scan in
    let begun = sym (ap setup_at c.over-scan.ensures) ∙ c.in_ok-draft.ensures in
    let step = setup_step (headed c.in_ok-draft.draft) u.line u.words u.lines u.end c.next_line.new.self
    (sym c.next_line.ensures.found ∙ c.if-not-next_line.false) c.next_line.ensures.after in
    rw (p.1, p.2)
    (fails_to c.in_err-second_line.field-0.0 _ _ (begun ∙ step) c.in_err-second_line.ensures.exact)

pub returns-then-branch : goal.returns-then-branch
returns-then-branch c =
    let u = c.memory_line.new.scan in
    let begun = sym (ap setup_at c.over-scan.ensures) ∙ c.in_ok-draft.ensures in
    let step = setup_step (headed c.in_ok-draft.draft) u.line u.words u.lines u.end c.next_line.new.self
    (sym c.next_line.ensures.found ∙ c.if-not-next_line.false) c.next_line.ensures.after in
    answers_to (λ s. s) c.text_end.result _ _
    (begun
    ∙ (step
    ∙ ends_by c.second_line.new.draft c.in_ok-second_line.field-0 c.second_line.new.scan _ c.if-branch.true
    c.in_ok-second_line.ensures.exact)) c.text_end.ensures

pub returns : goal.returns
returns c =
    let u = c.memory_line.new.scan in
    let begun = sym (ap setup_at c.over-scan.ensures) ∙ c.in_ok-draft.ensures in
    let step = setup_step (headed c.in_ok-draft.draft) u.line u.words u.lines u.end c.next_line.new.self
    (sym c.next_line.ensures.found ∙ c.if-not-next_line.false) c.next_line.ensures.after in
    answers_to (λ s. s) c.rest.result _ _
    (begun
    ∙ (step
    ∙ goes_by c.second_line.new.draft c.in_ok-second_line.field-0 c.second_line.new.scan _ c.if-branch.false
    c.in_ok-second_line.ensures.exact)) c.rest.ensures
