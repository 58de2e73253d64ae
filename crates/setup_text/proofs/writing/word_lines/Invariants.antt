use Rattle.std.proofs.Common.{◌≡◌, ◌≤◌, ◌+◌, ◌*◌, ◌++◌, length, map, take}
use Rattle.fb_text.specs.Written.{lines_bytes}
use Rattle.setup_text.specs.Spelling.{word_row}
use Rattle.setup_text.specs.Writing.{words_from}
use Rattle.setup_text.proofs.writing.word_lines.Given as goal

abbrev pub invariant-loop-addr : goal.invariant-loop-addr
invariant-loop-addr l = record {
  bytes : l.text.bytes ≡ l.initial.text.bytes ++ lines_bytes (map word_row (words_from 0 (take l.addr l.memory)));
  room : 48 * length l.memory ≤ l.text.spare + 48 * l.addr;
  spare : l.initial.text.spare ≤ l.text.spare + 48 * l.addr;
}
