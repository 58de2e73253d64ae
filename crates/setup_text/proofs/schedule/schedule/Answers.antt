use Rattle.std.proofs.Common.{ℕ, List, Result, sym, ◌∙◌}
use Rattle.std.proofs.lemmas.Result.{err_from_is_err_and}
use Rattle.fb_text.specs.Unread.{Line}
use Rattle.setup_text.specs.Reading.{Fault, schedule_lines}
use Rattle.setup_text.proofs.LineSteps.{schedule_step, schedule_none, line_fails, line_leads}
use Rattle.setup_text.proofs.schedule.schedule.Goals as goal

abbrev lines : ℕ → List ℕ → List Line → ℕ → Result (List ℕ) Fault
lines boards turns ls end = schedule_lines boards turns ls

pub returns-in_err-places : goal.returns-in_err-places
returns-in_err-places c =
    let p = err_from_is_err_and c.from_residual.result c.from_residual.ensures.1 in
    let u = c.loop-scan.scan in
    let step = schedule_step c.args.boards c.loop-scan.turns.items u.line u.words u.lines u.end c.next_line.new.self
    (sym c.next_line.ensures.found ∙ c.loop-scan-test.true) c.next_line.ensures.after in
    rw (p.1, p.2) (line_fails (lines c.args.boards) c.in_err-places.field-0.0 c.next_line.new.self _ _
    (sym step ∙ c.loop-scan.invariant) c.in_err-places.ensures.value)

pub loop-scan-preserved : goal.loop-scan-preserved
loop-scan-preserved c =
    let u = c.loop-scan.scan in
    let step = schedule_step c.args.boards c.loop-scan.turns.items u.line u.words u.lines u.end c.next_line.new.self
    (sym c.next_line.ensures.found ∙ c.loop-scan-test.true) c.next_line.ensures.after in
    sym (line_leads (lines c.args.boards) c.places.new.turns.items c.next_line.new.self c.places.new.scan _
    c.in_ok-places.ensures.value c.in_ok-places.ensures.stays) ∙ (sym step ∙ c.loop-scan.invariant)

pub returns : goal.returns
returns c =
    sym c.loop-scan.invariant
    ∙ schedule_none c.args.boards c.loop-scan.turns.items c.loop-scan.scan.lines
    (sym c.next_line.ensures.found ∙ c.loop-scan-test.false)
