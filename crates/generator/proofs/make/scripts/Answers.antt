use Rattle.std.proofs.Common.{arith, ap, length, ◌≡◌, ◌∙◌, ◌+◌, ◌*◌}
use Rattle.std.proofs.lemmas.Nat.{mod_below}
use Rattle.generator.specs.Words.{generator_after}
use Rattle.generator.proofs.Making.{dealt_none, dealt_more, length-dealt}
use Rattle.generator.proofs.make.scripts.Goals as goal

pub loop-j-init : goal.loop-j-init
loop-j-init c =
    record { scripts = c.in_ok-scripts.ensures ∙ dealt_none c.args.n; generator = c.seeded-generator.ensures }

pub deal-requires : goal.deal-requires
deal-requires c =
    let long = ap length c.loop-j.invariant.scripts ∙ length-dealt c.args.n c.loop-j.j in
    let below = mod_below c.loop-j.j 16 (omega arith) in
    omega (arith, long, below)

pub loop-j-preserved : goal.loop-j-preserved
loop-j-preserved c =
    let n = c.args.n in
    let j = c.loop-j.j in
    let drawn = c.loop-j.invariant.generator in
    let sum : 3 * j + 3 ≡ 3 * (j + 1) = omega arith in
    record {
      scripts =
          dealt_more n j c.next_access-access.result _ _ c.loop-j.invariant.scripts
          (c.next_access-access.ensures.access n (3 * j) drawn) c.in_ok-deal.ensures;
      generator = c.next_access-access.ensures.next n (3 * j) drawn ∙ ap (generator_after n) sum;
    }
