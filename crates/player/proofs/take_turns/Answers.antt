use Rattle.std.proofs.Common.{List, ap, get_or, sym, take, ℕ, ◌∙◌}
use Rattle.std.proofs.lemmas.List.{take_more}
use Rattle.backplane.specs.Machine.{IsBoard, Machine}
use Rattle.backplane.specs.Moves.{after_turns, moved, turn_of}
use Rattle.backplane.proofs.Turning.{next_turn}
use Rattle.player.proofs.Playing.{others}
use Rattle.player.proofs.take_turns.Goals as goal

pub loop-turn-preserved : goal.loop-turn-preserved
loop-turn-preserved c =
    let m = c.args.machine.now in
    let turns = c.args.turns.now in
    let at = c.loop-turn.turn-index in
    let i = c.loop-turn.invariant in
    let board = get_or turns at 0 in
    record {
      machine =
          c.advance.ensures.machine
          ∙ ap (λ (x : Machine). moved x (turn_of x board)) i.machine
          ∙ sym (next_turn m (take at turns) board)
          ∙ ap (after_turns m) (sym (take_more turns at 0 c.loop-turn-test.true));
      boards = others (IsBoard m) turns at c.loop-turn-test.true i.boards;
    }
