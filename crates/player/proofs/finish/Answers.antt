use Rattle.std.proofs.Common.{Bool, ap, arith, length, ◌*◌, ◌+◌, ◌≡◌, ◌≤◌}
use Rattle.bus_model.specs.Runs.{Complete}
use Rattle.bus_model.specs.Setup.{access_count}
use Rattle.backplane.specs.Machine.{Machine, configuration}
use Rattle.player.proofs.Playing.{all_rounds, goes_on, one_more}
use Rattle.player.proofs.finish.Goals as goal

-- A round before the end has an event.
grown :
    (c : goal.After-journal-made-in-loop-made)
    → length c.loop-made.machine.journal + 1 ≤ length c.round.new.self.journal
grown c =
    let now = c.loop-made.machine in
    let unfinished : Complete now.setup (configuration now) → ⊥ =
    λ complete. (let ended = c.finished.ensures.1 complete in let going = c.loop-made-test.true in cc) in
    goes_on now c.round.new.self c.round.result c.round.ensures.turns c.round.ensures.count
    (c.round.ensures.goes_on unfinished)

pub loop-made-smaller : goal.loop-made-smaller
loop-made-smaller c =
    let more = grown c in
    let same : access_count c.round.new.self.setup ≡ access_count c.loop-made.machine.setup =
    ap (λ (m : Machine). access_count m.setup) c.round.ensures.turns in
    let bounded = c.journal-made-in-loop-made.ensures.bounded in
    omega (arith, more, same, bounded)

pub loop-made-preserved : goal.loop-made-preserved
loop-made-preserved c = record {
  rounds =
      one_more c.args.machine.now c.loop-made.machine c.round.new.self c.loop-made.invariant.rounds
      c.round.ensures.turns (grown c);
  bounded = c.journal-made-in-loop-made.ensures.bounded;
}

pub returns-clause-machine : goal.returns-clause-machine
returns-clause-machine c = λ rounds enough.
    let so = c.loop-made.invariant.rounds in
    let same : access_count c.loop-made.machine.setup ≡ access_count c.args.machine.now.setup =
    ap (λ (m : Machine). access_count m.setup) so.machine in
    let bounded = c.loop-made.invariant.bounded in
    all_rounds c.args.machine.now c.loop-made.machine so (c.finished.ensures.0 c.loop-made-test.false)
    (omega (arith, same, bounded)) rounds enough
