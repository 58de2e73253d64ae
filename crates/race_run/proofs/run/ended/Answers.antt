use Rattle.std.proofs.Common.{ap, arith, ◌*◌, ◌≡◌}
use Rattle.bus_model.specs.Places.{repeated}
use Rattle.bus_model.specs.Setup.{access_count, board_places}
use Rattle.bus_model.specs.Turns.{events_of_turns}
use Rattle.backplane.specs.Machine.{Machine, configuration}
use Rattle.backplane.specs.Moves.{after_turns}
use Rattle.race_run.proofs.run.ended.Goals as goal

-- The machine after so many rounds that every script is at its end.
module _ (c : goal.After-finish) where
  played :
      c.finish.new.machine
      ≡ after_turns c.args.machine
      (repeated (8 * access_count c.args.machine.setup) (board_places c.args.machine.setup))
  played = c.finish.ensures.machine (8 * access_count c.args.machine.setup) (omega arith)

pub returns-then-spent-clause-setup : goal.returns-then-spent-clause-setup
returns-then-spent-clause-setup c = ap (λ (m : Machine). m.setup) (played c)

pub returns-then-spent-clause-journal : goal.returns-then-spent-clause-journal
returns-then-spent-clause-journal c =
    let setup = c.args.machine.setup in
    record {
      more =
          events_of_turns setup (configuration c.args.machine) (repeated (8 * access_count setup) (board_places setup));
      is = ap (λ (m : Machine). m.journal) (played c);
    }
