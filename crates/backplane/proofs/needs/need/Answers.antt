use Rattle.std.proofs.Common.{refl, subst, sym, List}
use Rattle.bus_model.specs.Setup.{BoardSpec}
use Rattle.board.specs.Rack.{AllShapesFit}
use Rattle.board.proofs.Making.{shapes-fit}
use Rattle.backplane.proofs.Opening.{boards-fit}
use Rattle.backplane.proofs.needs.need.Goals as goal

pub frames_of-requires-clause-fit : goal.frames_of-requires-clause-fit
frames_of-requires-clause-fit c =
    let setup = c.args.setup.now in
    subst (λ (bs : List BoardSpec). AllShapesFit bs) (sym c.boards.ensures.boards)
    (shapes-fit setup.tables setup.boards (boards-fit setup setup.tables c.boards.ensures.sound refl))
