use Rattle.std.proofs.Common.{◌≡◌, ◌≤◌, ℕ, List, [], subst, sym}
use Rattle.std.specs.Prelude.{IfSome, length}
use Rattle.fb_text.specs.Unread.{unread}
use Rattle.fb_cli.specs.declared.role.Role.{Role}
use Rattle.fb_cli.specs.Output.{limit_of, within}
use Rattle.fb_cli.specs.Check.{tables_at}
use Rattle.fb_cli.proofs.Coming.{stops_first}
use Rattle.fb_cli.proofs.Ready.{check_prints, check_ready, tables_refusal}
use Rattle.fb_cli.proofs.checking.ready.Goals as goal

pub returns-in-Ok-clause-ready : goal.returns-in-Ok-clause-ready
returns-in-Ok-clause-ready g c =
    let files = g.F.Shelf.file c.args.shelf.now in
    let name = c.args.name.now in
    let same = sym c.deref.ensures.value in
    check_ready name c.deref.result.now files _ c.verdicts-report.result
    (subst (λ (b : List ℕ). length b ≤ limit_of Role.Setup) same c.in-Ok.ensures.within)
    (subst (λ (b : List ℕ). IfSome files (λ file. file name ≡ b)) same c.in-Ok.ensures.bytes)
    c.verdicts-report.ensures.free c.verdicts-report.ensures.stops

pub returns-in-Ok-clause-report : goal.returns-in-Ok-clause-report
returns-in-Ok-clause-report g c =
    let files = g.F.Shelf.file c.args.shelf.now in
    let name = c.args.name.now in
    check_prints name c.deref.result.now files c.verdicts-report.result
    (subst (λ (b : List ℕ). IfSome files (λ file. file name ≡ b)) (sym c.deref.ensures.value) c.in-Ok.ensures.bytes)
    c.verdicts-report.ensures.report

pub returns-in-Err-clause-ready : goal.returns-in-Err-clause-ready
returns-in-Err-clause-ready g c =
    let name = c.args.name.now in
    stops_first name [] (within Role.Setup) (λ file. tables_refusal (tables_at (unread (file name))))
    (g.F.Shelf.file c.args.shelf.now) _ c.in-Err.reply c.in-Err.ensures.stops
