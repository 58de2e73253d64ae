use Rattle.std.proofs.Common.{◌≡◌, ◌≤◌, ◌+◌, ◌*◌, ◌++◌}
use Rattle.fb_text.specs.Written.{KeepsRoom}
use Rattle.table_library.specs.Lines.{board_lines}
use Rattle.table_library.specs.Traffic.{counts_at}
use Rattle.table_library.proofs.lines.board_lines.Given as goal

-- the lines so far, and room for the others
abbrev pub invariant-loop-place : goal.invariant-loop-place
invariant-loop-place l = record {
  bytes : l.text.bytes ≡ l.initial.text.bytes ++ board_lines (counts_at l.report) l.place;
  spare : l.initial.text.spare ≤ l.text.spare + 200 * l.place;
  kept : KeepsRoom l.initial.text l.text;
}
