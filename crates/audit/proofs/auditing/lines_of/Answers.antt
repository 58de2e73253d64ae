use Rattle.std.proofs.Common.{◌∙◌}
use Rattle.audit.proofs.MemoryLines.{line-more, lines-all}
use Rattle.audit.proofs.auditing.lines_of.Goals as goal

pub loop-line-preserved : goal.loop-line-preserved
loop-line-preserved c =
    line-more c.args.words.now _ _ c.loop-line.line 0 c.loop-line-test.true c.loop-line.invariant c.in-Ok.ensures.items

pub returns : goal.returns
returns c = c.loop-line.invariant ∙ lines-all c.args.words.now c.loop-line.line c.loop-line-test.false
