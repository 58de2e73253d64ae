use Rattle.std.proofs.Common.{◌∙◌, ap, sym, subst}
use Rattle.std.specs.Prelude.{vec_capacity}
use Rattle.bus_model.specs.Configuration.{present_access}
use Rattle.backplane.specs.Machine.{Machine, IsBoard, configuration, configuration_after}
use Rattle.backplane.proofs.Keeping.{present-is}
use Rattle.backplane.proofs.Stepping.{part-of}
use Rattle.backplane.proofs.machine.Machine.present.Goals as goal

pub place-place-requires : goal.place-place-requires
place-place-requires c =
    let m = c.self.inside in
    let board : IsBoard _ c.args.board =
    subst (λ (x : Machine). IsBoard x c.args.board) (sym c.self.view_is) c.requires in
    part-of m.setup m.journal.items (vec_capacity m.journal) m.parts m.histories c.self.invariant c.args.board board.low
    board.high

pub returns : goal.returns
returns c =
    let m = c.self.inside in
    present-is m.setup (configuration_after m.setup m.journal.items) m.parts c.args.board c.place-place.result
    c.script.result.now c.access_at.result c.self.invariant.parts c.requires.low
    c.place-place.ensures c.script.ensures.script c.access_at.ensures
    ∙ ap (λ (x : Machine). present_access x.setup (configuration x).boards c.args.board) c.self.view_is
