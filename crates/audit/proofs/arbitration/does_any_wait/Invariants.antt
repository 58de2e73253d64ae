use Rattle.std.proofs.Common.{◌≡◌, drop}
use Rattle.std.specs.List.{list_any}
use Rattle.bus_model.specs.Arbitration.{does_any_wait, is_waiting}
use Rattle.bus_model.specs.Places.{places_from}
use Rattle.audit.proofs.arbitration.does_any_wait.Given as goal

-- no board so far waits
abbrev pub invariant-loop-place : goal.invariant-loop-place
invariant-loop-place l =
    does_any_wait l.served l.boards
    ≡ list_any (is_waiting l.served l.boards) (drop l.place (places_from 1 l.boards))
