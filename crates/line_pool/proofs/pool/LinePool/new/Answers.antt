use Rattle.std.proofs.Common.{ap, ◌∙◌}
use Rattle.line_pool.specs.Pools.{Pool, count_out}
use Rattle.line_pool.proofs.Counts.{count_none}
use Rattle.line_pool.proofs.pool.LinePool.new.Goals as goal

pub returns-in-Ok-clause-count : goal.returns-in-Ok-clause-count
returns-in-Ok-clause-count c = ap (λ (p : Pool). count_out p.out) c.in-Ok.ensures ∙ count_none c.args.frames
