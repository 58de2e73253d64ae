use Rattle.std.proofs.Common.{ap, ◌∙◌}
use Rattle.table_library.specs.Narrow.{needed_part}
use Rattle.table_library.proofs.NarrowedParts.{made_in_class}
use Rattle.table_library.proofs.narrowing.part_within.Goals as goal

pub returns-clause-in_class : goal.returns-clause-in_class
returns-clause-in_class c =
    made_in_class c.args.table.now c.args.left.now c.requires.left c.in_ok-part.part c.requires.some
    (c.in_ok-part.ensures ∙ ap needed_part c.in_ok-fitting.ensures)
