use Rattle.std.proofs.Common.{◌≡◌, length}
use Rattle.fb_text.specs.Unread.{unread}
use Rattle.setup_text.specs.Reading.{BookMode, book_lines, book_at}
use Rattle.setup_text.proofs.book.book.Given as goal

abbrev pub invariant-loop-alloc : goal.invariant-loop-alloc
invariant-loop-alloc l = book_lines (BookMode.whole l.tables) l.scan.lines l.scan.end ≡ book_at (unread l.bytes)

abbrev pub decreases-loop-alloc : goal.decreases-loop-alloc
decreases-loop-alloc l = length l.scan.lines
