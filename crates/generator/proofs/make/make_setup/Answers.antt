use Rattle.generator.proofs.Fitting.{parts_fit}
use Rattle.generator.proofs.make.make_setup.Goals as goal

pub of-requires : goal.of-requires
of-requires c =
    parts_fit c.args.n _ _ _ _ c.in_ok-memory.ensures c.in_ok-tables.ensures c.in_ok-boards.ensures
    c.in_ok-scripts.ensures
