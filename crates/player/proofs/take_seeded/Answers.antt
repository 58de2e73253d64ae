use Rattle.std.proofs.Common.{List, ap, subst, sym, ℕ, ◌∙◌}
use Rattle.std.specs.List.{AllByRecursion}
use Rattle.backplane.specs.Machine.{IsBoard}
use Rattle.backplane.specs.Moves.{after_turns}
use Rattle.player.proofs.Playing.{turn_first}
use Rattle.player.proofs.take_seeded.Goals as goal

pub loop-turn-preserved : goal.loop-turn-preserved
loop-turn-preserved c =
    let now = c.loop-turn.machine in
    let i = c.loop-turn.invariant in
    record {
      machine =
          turn_first now c.advance.new.self c.in-Some.turn c.next_turn.new.self c.advance.ensures.machine
          ∙ ap (after_turns now) (sym c.in-Some.ensures)
          ∙ i.machine;
      boards = (subst (AllByRecursion (IsBoard c.args.machine.now)) c.in-Some.ensures i.boards).1;
    }
