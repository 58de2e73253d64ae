use Rattle.std.proofs.Common.{◌≡◌, ◌≤◌, ◌+◌, ◌*◌, ◌++◌, length, drop}
use Rattle.std.specs.List.{AllByRecursion}
use Rattle.trace_text.specs.Ranges.{IsBoard}
use Rattle.fb_text.specs.Written.{KeepsRoom}
use Rattle.trace_text.specs.Writing.{led}
use Rattle.trace_text.proofs.writing.boards.Given as goal

abbrev pub invariant-loop-board : goal.invariant-loop-board
invariant-loop-board l = record {
  each : AllByRecursion IsBoard (drop l.board-index l.boards);
  bytes : l.text.bytes ++ led l.lead (drop l.board-index l.boards) ≡ l.initial.text.bytes ++ led l.fn.lead l.boards;
  room : 3 * length l.boards ≤ l.text.spare + 3 * l.board-index;
  spare : l.initial.text.spare ≤ l.text.spare + 3 * l.board-index;
  kept : KeepsRoom l.initial.text l.text;
}
