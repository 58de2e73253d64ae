use Rattle.std.proofs.Common.{◌≡◌, ◌≤◌, map}
use Rattle.std.specs.Prelude.{vec_capacity}
use Rattle.generator.specs.Generated.{generated_board, numbers_to}
use Rattle.generator.proofs.make.boards.Given as goal

-- the boards so far, and room for all
abbrev pub invariant-loop-index : goal.invariant-loop-index
invariant-loop-index l = record {
  items : l.boards.items ≡ map (generated_board l.n) (numbers_to l.index);
  room : 16 ≤ vec_capacity l.boards;
}
