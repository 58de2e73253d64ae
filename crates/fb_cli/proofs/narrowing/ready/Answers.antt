use Rattle.std.proofs.Common.{[], sym, subst, ◌∙◌}
use Rattle.setup_text.specs.Alone.{alone_at}
use Rattle.table_library.specs.Narrow.{narrow_of}
use Rattle.fb_cli.specs.declared.role.Role.{Role}
use Rattle.fb_cli.specs.Output.{with_file}
use Rattle.fb_cli.specs.Narrow.{unless_some}
use Rattle.fb_cli.proofs.Coming.{stops_first}
use Rattle.fb_cli.proofs.Narrowed.{SaysNone, narrow_free, narrow_read, narrow_stops}
use Rattle.fb_cli.proofs.narrowing.ready.Goals as goal

pub returns-in-Ok-Some-clause-ready : goal.returns-in-Ok-Some-clause-ready
returns-in-Ok-Some-clause-ready g c =
    narrow_free c.args.name.now (g.F.Shelf.file c.args.shelf.now) c.in-Ok.table c.in-Ok-Some.narrowed
    c.in-Ok.ensures.within c.in-Ok.ensures.table (sym c.in-Ok-Some.field-0-is ∙ c.in-Ok-Some.ensures)

pub returns-in-Ok-Some-clause-narrowed : goal.returns-in-Ok-Some-clause-narrowed
returns-in-Ok-Some-clause-narrowed g c =
    narrow_read c.args.name.now (g.F.Shelf.file c.args.shelf.now) c.in-Ok.table c.in-Ok-Some.narrowed
    c.in-Ok.ensures.table (sym c.in-Ok-Some.field-0-is ∙ c.in-Ok-Some.ensures)

pub returns-in-Ok-None-clause-ready : goal.returns-in-Ok-None-clause-ready
returns-in-Ok-None-clause-ready g c =
    rw c.of.ensures
    (narrow_stops c.args.name.now (g.F.Shelf.file c.args.shelf.now) _ c.in-Ok.table c.nothing_left.result
    c.in-Ok.ensures.within c.in-Ok.ensures.table (sym c.in-Ok-None.field-0-is ∙ c.in-Ok-None.ensures)
    (subst (SaysNone c.nothing_left.result) c.name.ensures.name c.nothing_left.ensures))

pub returns-clause-ready : goal.returns-clause-ready
returns-clause-ready g c =
    stops_first c.args.name.now [] (with_file Role.Setup alone_at) (λ file t. unless_some t.name (narrow_of t))
    (g.F.Shelf.file c.args.shelf.now) _ c.in-Err.reply c.in-Err.ensures.stops
