use Rattle.std.proofs.Common.{◌∙◌}
use Rattle.generator.proofs.Draws.{first_generator}
use Rattle.generator.proofs.words.seeded.Goals as goal

pub returns : goal.returns
returns c = c.seed_from_u64.ensures ∙ first_generator c.args.seed
