use Rattle.std.proofs.Common.{List, ap, sym, subst, ◌∙◌, length, arith}
use Rattle.bus_model.specs.Events.{Event}
use Rattle.bus_model.specs.Entries.{entries}
use Rattle.audit.specs.Auditor.{StandsFor}
use Rattle.audit.specs.Parts.{shown}
use Rattle.audit.proofs.Standing.{done_fits, few_next, found_at, lines_few, stands_next, words_fit}
use Rattle.audit.proofs.Watching.{boards_few, counts_now}
use Rattle.audit.proofs.auditing.Auditor.go.Goals as goal

pub apply-requires-clause-counts : goal.apply-requires-clause-counts
apply-requires-clause-counts c =
    let s = c.args.self.now in
    counts_now s.setup s.journal.items (shown s.parts) s.flat s.finding c.requires.stands.well c.requires.stands

pub apply-requires-clause-few : goal.apply-requires-clause-few
apply-requires-clause-few c =
    let s = c.args.self.now in
    boards_few s.setup s.journal.items (shown s.parts) s.flat s.finding c.requires.stands.well c.requires.stands

pub harm_after-harm-requires-clause-done : goal.harm_after-harm-requires-clause-done
harm_after-harm-requires-clause-done c =
    let s = c.args.self.now in
    done_fits s.setup s.journal.items (shown s.parts) (shown c.apply.new.parts) s.flat s.finding c.requires.turn.0
    c.args.event c.requires.stands.well c.requires.stands c.requires.turn.1 c.in_ok-apply.ensures

pub harm_after-harm-requires-clause-lines : goal.harm_after-harm-requires-clause-lines
harm_after-harm-requires-clause-lines c =
    let s = c.args.self.now in
    words_fit s.setup s.journal.items (shown s.parts) (shown c.apply.new.parts) s.flat s.finding c.requires.turn.0
    c.args.event c.requires.stands.well c.requires.stands c.requires.turn.1 c.in_ok-apply.ensures

pub harm_after-harm-requires-clause-few : goal.harm_after-harm-requires-clause-few
harm_after-harm-requires-clause-few c =
    let s = c.args.self.now in
    lines_few s.setup s.journal.items (shown s.parts) (shown c.apply.new.parts) s.flat s.finding c.requires.turn.0
    c.args.event c.requires.stands.well c.requires.stands c.requires.turn.1 c.in_ok-apply.ensures

pub overflow_cast-len : goal.overflow_cast-len
overflow_cast-len c =
    let s = c.args.self.now in
    let few =
    few_next s.setup s.journal.items (shown s.parts) (shown c.apply.new.parts) s.flat s.finding c.requires.turn.0
    c.args.event c.requires.stands.well c.requires.stands c.requires.turn.1 c.in_ok-apply.ensures in
    let pushed = ap (λ (es : List Event). length es) c.in-Ok.ensures.items in
    let long = c.push.new.self.ok.0 in
    omega (arith, few, pushed, long, c.len.ensures)

pub returns-clause-audit : goal.returns-clause-audit
returns-clause-audit c =
    let s = c.args.self.now in
    let found =
    found_at s.setup s.journal.items (shown s.parts) (shown c.apply.new.parts) s.flat s.finding c.requires.turn.0
    c.args.event c.requires.stands.well c.requires.stands c.requires.turn.1 c.in_ok-apply.ensures c.len.result
    c.push.new.self.items c.touched_by-lines.result c.harm_after-harm.result c.finding_at-self.result c.requires.none
    c.in-Ok.ensures.items (c.len.ensures ∙ c.push.new.self.ok.0) c.touched_by-lines.ensures
    (c.harm_after-harm.ensures.harm s.setup.memory (entries s.journal.items) c.requires.stands.latest)
    c.finding_at-self.ensures in
    λ i. record { setup = s.setup; journal = c.in-Ok.ensures.items i; finding = found i }

pub returns-clause-stands : goal.returns-clause-stands
returns-clause-stands c =
    let s = c.args.self.now in
    let found =
    found_at s.setup s.journal.items (shown s.parts) (shown c.apply.new.parts) s.flat s.finding c.requires.turn.0
    c.args.event c.requires.stands.well c.requires.stands c.requires.turn.1 c.in_ok-apply.ensures c.len.result
    c.push.new.self.items c.touched_by-lines.result c.harm_after-harm.result c.finding_at-self.result c.requires.none
    c.in-Ok.ensures.items (c.len.ensures ∙ c.push.new.self.ok.0) c.touched_by-lines.ensures
    (c.harm_after-harm.ensures.harm s.setup.memory (entries s.journal.items) c.requires.stands.latest)
    c.finding_at-self.ensures in
    subst (λ es. StandsFor s.setup es (shown c.apply.new.parts) c.harm_after-harm.new.flat c.finding_at-self.result)
    (sym c.in-Ok.ensures.items)
    (stands_next s.setup s.journal.items (shown s.parts) (shown c.apply.new.parts) s.flat s.finding c.requires.turn.0
    c.args.event c.requires.stands.well c.requires.stands c.requires.turn.1 c.in_ok-apply.ensures
    c.harm_after-harm.new.flat c.finding_at-self.result
    (c.harm_after-harm.ensures.latest s.setup.memory (entries s.journal.items) c.requires.stands.latest)
    c.harm_after-harm.ensures.long found)
