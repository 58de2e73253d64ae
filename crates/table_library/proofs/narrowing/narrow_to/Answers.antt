use Rattle.table_library.proofs.NarrowedParts.{made_is_narrow}
use Rattle.table_library.proofs.narrowing.narrow_to.Goals as goal

pub returns-in-Ok : goal.returns-in-Ok
returns-in-Ok c =
    made_is_narrow c.args.table.now c.args.left.now c.requires.left c.in_ok-part.part c.in-Ok.accepted c.requires.some
    c.in_ok-part.ensures.part c.in-Ok.ensures.same
