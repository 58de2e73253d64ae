use Rattle.std.proofs.Common.{sym, ◌∙◌}
use Rattle.setup_text.proofs.Naming.{found_none, found_some}
use Rattle.setup_text.proofs.names.Names.find.Goals as goal

pub returns-in_err-place : goal.returns-in_err-place
returns-in_err-place c =
    rw (← c.self.view_is) (c.from_residual.ensures
    ∙ sym (found_none c.args.name.now c.self.inside.found.entries c.in_err-place.ensures.index))

pub returns : goal.returns
returns c =
    rw (← c.self.view_is) (sym (found_some c.args.name.now c.self.inside.found.entries c.in_ok-place.place
    c.index-stays.result.now c.in_ok-place.ensures.index c.index-stays.ensures))
