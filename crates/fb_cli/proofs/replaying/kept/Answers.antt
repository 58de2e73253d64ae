use Rattle.std.proofs.Common.{◌≡◌, ◌≤◌, ℕ, List, Ok, subst, sym}
use Rattle.std.specs.Prelude.{IfSome, length}
use Rattle.std.proofs.lemmas.Result.{err_from_is_err_and}
use Rattle.backplane.specs.Machine.{Machine, opened}
use Rattle.replayer.specs.Replaying.{replayed}
use Rattle.fb_cli.specs.declared.role.Role.{Role}
use Rattle.fb_cli.specs.Output.{limit_of, within}
use Rattle.fb_cli.specs.Replay.{on_replayed}
use Rattle.fb_cli.proofs.Coming.{stops_at}
use Rattle.fb_cli.proofs.Traces.{trace_kept}
use Rattle.fb_cli.proofs.replaying.kept.Goals as goal

pub returns-in_err-bytes-clause-stops : goal.returns-in_err-bytes-clause-stops
returns-in_err-bytes-clause-stops g c =
    let name = c.args.name.now in
    let p = err_from_is_err_and c.from_residual.result c.from_residual.ensures.1 in
    rw (p.1, p.2)
    (stops_at Role.Trace (g.F.Shelf.file c.args.shelf.now) name _ (within Role.Trace)
    (λ file. on_replayed (replayed (opened c.args.setup) (file name))) c.in_err-bytes.field-0.0
    c.in_err-bytes.ensures.stops)

pub returns-in-Ok-replayed-clause-free : goal.returns-in-Ok-replayed-clause-free
returns-in-Ok-replayed-clause-free g c =
    let name = c.args.name.now in
    let files = g.F.Shelf.file c.args.shelf.now in
    let bytes = c.deref.result.now in
    let last = c.in-Ok-replayed.machine in
    let same = sym c.deref.ensures.value in
    let short = subst (λ (b : List ℕ). length b ≤ limit_of Role.Trace) same c.in_ok-bytes.ensures.within in
    let is = subst (λ (b : List ℕ). IfSome files (λ file. file name ≡ b)) same c.in_ok-bytes.ensures.bytes in
    let came =
    subst (λ (m : Machine). replayed m bytes ≡ Ok last) c.in-Ok.ensures (sym c.in-Ok-replayed.ensures) in
    trace_kept name bytes files (opened c.args.setup) last short is came
