use Rattle.std.proofs.Common.{arith, ◌≤◌, get_or}
use Rattle.bus_model.specs.Setup.{BoardSpec, Plain, First}
use Rattle.board.specs.Station.{room_of}
use Rattle.board.proofs.Making.{shape-at, ways-step, room-few}
use Rattle.board.proofs.rack.frames_for.Goals as goal

pub room-frames-requires : goal.room-frames-requires
room-frames-requires c = shape-at c.args.boards.now c.loop-board.board-index _ c.requires.fit c.loop-board-test.true

pub overflow_add-frames : goal.overflow_add-frames
overflow_add-frames c =
    let none : BoardSpec = record { number = 0; table = 0; shape = Plain; choose = First } in
    let shape = (get_or c.args.boards.now c.loop-board.board-index none).shape in
    let few = c.loop-board.invariant.few in
    let most : room_of shape ≤ 256 =
    room-few shape (shape-at c.args.boards.now c.loop-board.board-index none c.requires.fit c.loop-board-test.true)
    in
    let e = c.room-frames.ensures in
    let boards = c.requires.few in
    let here = c.loop-board-test.true in
    omega arith

pub loop-board-preserved : goal.loop-board-preserved
loop-board-preserved c =
    let none : BoardSpec = record { number = 0; table = 0; shape = Plain; choose = First } in
    let shape = (get_or c.args.boards.now c.loop-board.board-index none).shape in
    let few = c.loop-board.invariant.few in
    let most : room_of shape ≤ 256 =
    room-few shape (shape-at c.args.boards.now c.loop-board.board-index none c.requires.fit c.loop-board-test.true)
    in
    let e = c.room-frames.ensures in
    record {
      sum =
          rw e (ways-step c.args.boards.now c.loop-board.board-index _ c.loop-board.frames c.loop-board-test.true
          c.loop-board.invariant.sum);
      few = omega arith;
    }
