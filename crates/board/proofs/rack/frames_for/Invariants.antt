use Rattle.std.proofs.Common.{◌≡◌, ◌≤◌, ◌*◌, take}
use Rattle.board.specs.Rack.{all_ways}
use Rattle.board.proofs.rack.frames_for.Given as goal

abbrev pub invariant-loop-board : goal.invariant-loop-board
invariant-loop-board l = record {
  sum : l.frames ≡ all_ways (take l.board-index l.boards);
  few : l.frames ≤ 256 * l.board-index;
}
