-- Rounds, in which each board has a turn in order.
use Rattle.std.specs.Prelude.{◌≡◌, ℕ, ◌+◌, ◌≤◌, length}
use Rattle.bus_model.specs.Places.{repeated}
use Rattle.bus_model.specs.Setup.{board_places}
use Rattle.backplane.specs.Machine.{Machine}
use Rattle.backplane.specs.Moves.{after_turns}

-- Some rounds, each of which had an event, lead from one machine to another.
pub record AfterRounds (before now : Machine) : Type 0 where
  pub rounds : ℕ
  pub machine : now ≡ after_turns before (repeated rounds (board_places before.setup))
  pub each : length before.journal + rounds ≤ length now.journal
