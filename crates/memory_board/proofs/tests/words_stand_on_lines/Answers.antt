use Rattle.std.proofs.Common.{arith, ap, length}
use Rattle.memory_board.proofs.tests.words_stand_on_lines.Goals as goal

pub new-memory-requires : goal.new-memory-requires
new-memory-requires g c =
    record { lines = 2; whole = ap length c.in_ok-vec.ensures.items; some = omega arith; most = omega arith }
