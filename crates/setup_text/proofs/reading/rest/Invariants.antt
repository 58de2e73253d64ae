use Rattle.std.proofs.Common.{◌≡◌, length}
use Rattle.setup_text.specs.Reading.{Mode, lines_at}
use Rattle.setup_text.proofs.reading.rest.Given as goal

abbrev pub invariant-loop-alloc : goal.invariant-loop-alloc
invariant-loop-alloc l =
    lines_at (Mode.body l.draft) l.scan.lines l.scan.end
    ≡ lines_at (Mode.body l.initial.draft) l.initial.scan.lines l.initial.scan.end

abbrev pub decreases-loop-alloc : goal.decreases-loop-alloc
decreases-loop-alloc l = length l.scan.lines
