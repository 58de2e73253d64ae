use Rattle.std.proofs.Common.{◌≡◌, ◌*◌}
use Rattle.class_relation.specs.Rows.{rows}
use Rattle.generator.specs.Words.{generator_after}
use Rattle.generator.specs.Generated.{dealt}
use Rattle.generator.proofs.make.scripts.Given as goal

-- the accesses that were dealt so far, and the words that were drawn for them
abbrev pub invariant-loop-j : goal.invariant-loop-j
invariant-loop-j l = record {
  scripts : rows l.scripts.items ≡ dealt l.n l.j;
  generator : l.generator ≡ generator_after l.n (3 * l.j);
}
