use Rattle.std.proofs.Common.{◌≡◌, ◌≤◌, ◌*◌, take}
use Rattle.board.specs.Rack.{all_ways}
use Rattle.backplane.proofs.needs.frames_of.Given as goal

abbrev pub invariant-loop-board : goal.invariant-loop-board
invariant-loop-board l = record {
  sum : l.frames ≡ all_ways (take l.board-index l.boards);
  few : l.frames ≤ 256 * l.board-index;
}
