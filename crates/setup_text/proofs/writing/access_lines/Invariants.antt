use Rattle.std.proofs.Common.{◌≡◌, ◌≤◌, ◌+◌, ◌*◌, ◌++◌, length, map, take}
use Rattle.std.specs.List.{AllByRecursion}
use Rattle.fb_text.specs.Written.{lines_bytes}
use Rattle.setup_text.specs.Spelling.{access_row, AccessFits}
use Rattle.setup_text.proofs.writing.access_lines.Given as goal

abbrev pub invariant-loop-access : goal.invariant-loop-access
invariant-loop-access l = record {
  bytes : l.text.bytes ≡ l.initial.text.bytes ++ lines_bytes (map access_row (take l.access-index l.script));
  room : 48 * length l.script ≤ l.text.spare + 48 * l.access-index;
  spare : l.initial.text.spare ≤ l.text.spare + 48 * l.access-index;
  fits : AllByRecursion AccessFits (take l.access-index l.script);
}
