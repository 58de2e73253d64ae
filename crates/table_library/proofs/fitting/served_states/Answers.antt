use Rattle.std.proofs.Common.{◌∙◌}
use Rattle.table_library.specs.Fitting.{is_served}
use Rattle.table_library.proofs.Sets.{marks_of_part}
use Rattle.table_library.proofs.fitting.served_states.Goals as goal

pub returns : goal.returns
returns c =
    c.marked.ensures
    ∙ marks_of_part (is_served c.args.table.now c.args.set.now) c.args.set.now
    c.stays.result c.stays-2.result c.stays-3.result
    c.stays-4.result c.stays-5.result c.stays.ensures.ordered c.stays.ensures.stays c.stays-2.ensures.stays
    c.stays-3.ensures.stays c.stays-4.ensures.stays c.stays-5.ensures.stays
