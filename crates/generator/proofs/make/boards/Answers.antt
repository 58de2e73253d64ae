use Rattle.std.proofs.Common.{arith, ap, length, ◌∙◌}
use Rattle.std.proofs.lemmas.List.{length-map}
use Rattle.generator.specs.Generated.{generated_board, numbers_to}
use Rattle.generator.proofs.Making.{length-numbers}
use Rattle.generator.proofs.make.boards.Goals as goal

pub push_reserved-requires : goal.push_reserved-requires
push_reserved-requires c =
    let i = c.loop-index.index in
    let long = ap length c.loop-index.invariant.items ∙ length-map (numbers_to i) (generated_board c.args.n)
    ∙ length-numbers i in
    let ok = c.loop-index.boards.ok in
    let room = c.loop-index.invariant.room in
    omega (arith, long, room)
