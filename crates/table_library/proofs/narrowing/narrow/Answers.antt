use Rattle.std.proofs.Common.{sym, ◌∙◌}
use Rattle.table_library.proofs.NarrowedParts.{none_is_narrow}
use Rattle.table_library.proofs.narrowing.narrow.Goals as goal

pub returns-else-some : goal.returns-else-some
returns-else-some c =
    none_is_narrow c.args.table.now c.states_left-left.result c.states_left-left.ensures
    (sym c.has-some.ensures.member ∙ c.if-some.false)
