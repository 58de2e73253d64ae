use Rattle.std.proofs.Common.{ℕ, subst, sym}
use Rattle.ruled_turn.specs.Seats.{number, seen, mine}
use Rattle.race_run.specs.Histories.{IsAtEnd}
use Rattle.race_run.specs.Workers.{setup_of}
use Rattle.race_run.proofs.Turning.{ended, history_seen}
use Rattle.race_run.proofs.workers.is_done_after_turn.Goals as goal

pub returns-in-Finished-clause-ended : goal.returns-in-Finished-clause-ended
returns-in-Finished-clause-ended g c = λ done.
    let before = c.args.seat.now in
    let after = c.turn.new.seat in
    let setup = setup_of c.args.shared.now in
    let answer = c.in_ok-moved.moved in
    let turned = c.in_ok-moved.ensures.turned in
    record {
      ended =
          subst (λ (n : ℕ). IsAtEnd setup (seen after) n) (sym c.turn.ensures.number)
          (ended setup (number before) answer (seen before) (mine before) (seen after) (mine after) c.in-Finished.is
          turned);
      history = history_seen setup (number before) answer (seen before) (mine before) (seen after) (mine after) turned;
    }
