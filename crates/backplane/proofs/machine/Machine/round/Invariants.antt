use Rattle.std.proofs.Common.{length, take, ◌≡◌, ◌≤◌}
use Rattle.bus_model.specs.Setup.{board_places}
use Rattle.bus_model.specs.Turns.{events_of_turns}
use Rattle.backplane.specs.Machine.{configuration}
use Rattle.backplane.specs.Moves.{after_turns}
use Rattle.backplane.proofs.machine.Machine.round.Given as goal

abbrev pub invariant-loop-place : goal.invariant-loop-place
invariant-loop-place l = record {
  turned : l.self ≡ after_turns l.fn.self (take l.place (board_places l.fn.self.setup));
  counted :
      l.did
      ≡ length
      (events_of_turns l.fn.self.setup (configuration l.fn.self) (take l.place (board_places l.fn.self.setup)));
  few : l.did ≤ l.place;
}
