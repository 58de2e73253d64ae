use Rattle.std.proofs.Common.{◌≡◌, take}
use Rattle.bus_model.specs.Configuration.{lines_of_words}
use Rattle.audit.proofs.auditing.lines_of.Given as goal

-- the lines so far
abbrev pub invariant-loop-line : goal.invariant-loop-line
invariant-loop-line l = l.lines.items ≡ take l.line (lines_of_words l.words)
