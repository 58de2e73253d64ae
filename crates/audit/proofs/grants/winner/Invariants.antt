use Rattle.std.proofs.Common.{◌≡◌, drop}
use Rattle.std.specs.Prelude.{filter, find, ◌==◌}
use Rattle.bus_model.specs.Arbitration.{competing, does_compete}
use Rattle.bus_model.specs.Places.{places_from}
use Rattle.bus_model.specs.Setup.{number_of}
use Rattle.audit.specs.Parts.{shown}
use Rattle.audit.proofs.grants.winner.Given as goal

-- no board so far competes with the number
abbrev pub invariant-loop-place : goal.invariant-loop-place
invariant-loop-place l =
    find (λ board. number_of l.setup board == l.number)
    (competing (shown l.parts).arbitration (shown l.parts).boards)
    ≡ find (λ board. number_of l.setup board == l.number)
    (filter (does_compete (shown l.parts).arbitration (shown l.parts).boards)
    (drop l.place (places_from 1 (shown l.parts).boards)))
