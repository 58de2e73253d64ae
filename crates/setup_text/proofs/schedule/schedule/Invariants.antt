use Rattle.std.proofs.Common.{◌≡◌, length}
use Rattle.fb_text.specs.Unread.{unread}
use Rattle.setup_text.specs.Reading.{schedule_lines, schedule_at}
use Rattle.setup_text.proofs.schedule.schedule.Given as goal

abbrev pub invariant-loop-scan : goal.invariant-loop-scan
invariant-loop-scan l = schedule_lines l.boards l.turns.items l.scan.lines ≡ schedule_at l.boards (unread l.bytes)

abbrev pub decreases-loop-scan : goal.decreases-loop-scan
decreases-loop-scan l = length l.scan.lines
