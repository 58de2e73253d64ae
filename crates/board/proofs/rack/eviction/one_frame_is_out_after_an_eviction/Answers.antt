use Rattle.std.proofs.Common.{◌≡◌, ◌≤◌, ◌∙◌, refl, arith, length}
use Rattle.board.specs.Rack.{all_ways}
use Rattle.board.proofs.Sharing.{one-frame}
use Rattle.board.proofs.rack.eviction.one_frame_is_out_after_an_eviction.Goals as goal

pub words-requires-3 : goal.words-requires-3
words-requires-3 g c =
    let rack = c.put_word.new.self in
    let e = c.in_ok-rack.ensures in
    let some : 1 ≤ length rack.rows =
    rw (c.put_word.ensures, c.put_line-2.ensures, c.set_state.ensures, c.put_line.ensures, e.1) (omega arith) in
    let one : all_ways rack.specs ≡ 1 =
    rw (c.put_word.ensures, c.put_line-2.ensures, c.set_state.ensures, c.put_line.ensures, e.0) refl in
    one-frame c.pool.result.now rack.rows c.pool.ensures.rows some (c.pool.ensures.all ∙ one)
