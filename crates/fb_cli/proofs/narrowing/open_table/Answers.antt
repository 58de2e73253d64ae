use Rattle.std.proofs.lemmas.Result.{err_from_is_err_and}
use Rattle.setup_text.specs.Alone.{alone_at}
use Rattle.fb_cli.specs.declared.role.Role.{Role}
use Rattle.fb_cli.proofs.Coming.{reading_stops}
use Rattle.fb_cli.proofs.narrowing.open_table.Goals as goal

pub returns-in_err-bytes-clause-stops : goal.returns-in_err-bytes-clause-stops
returns-in_err-bytes-clause-stops g c =
    let p = err_from_is_err_and c.from_residual.result c.from_residual.ensures.1 in
    rw (p.1, p.2)
    (reading_stops Role.Setup alone_at (g.F.Shelf.file c.args.shelf.now) c.args.name.now _ c.in_err-bytes.field-0.0
    c.in_err-bytes.ensures.stops)
