use Rattle.std.proofs.Common.{ap, ℕ, ◌∙◌}
use Rattle.rand_pcg.specs.Lcg.{Lcg, advance}
use Rattle.rand_pcg.specs.Pcg.{multiplier_64, pcg32}
use Rattle.bus_model.specs.Turns.{seeded_word}
use Rattle.audit.proofs.picks.draw.Goals as goal

pub returns-in-Seed : goal.returns-in-Seed
unfolding seeded_word
returns-in-Seed c =
    rw c.in-Seed.is (ap (λ (p : ℕ × Lcg). p.0) c.next_word.ensures
    ∙ ap (λ (g : Lcg). (pcg32 g).0)
    (c.advance.ensures ∙ ap (advance 64 multiplier_64 c.args.spent) c.seed_from_u64-generator.ensures))
