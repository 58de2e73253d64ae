use Rattle.std.proofs.Common.{◌≡◌, ◌≤◌, [], replicate}
use Rattle.std.specs.Prelude.{vec_capacity}
use Rattle.class_relation.specs.Rows.{rows}
use Rattle.generator.proofs.make.empty_scripts.Given as goal

-- the scripts so far, and room for all
abbrev pub invariant-loop-script : goal.invariant-loop-script
invariant-loop-script l = record {
  items : rows l.scripts.items ≡ replicate l._script [];
  room : 16 ≤ vec_capacity l.scripts;
}
