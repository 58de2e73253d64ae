-- The events of audits, and the lines that spell them.
use Rattle.std.specs.Prelude.{ℕ, List}
use Rattle.std.specs.List.{AllByRecursion}
use Rattle.trace_text.specs.Ranges.{InRange}
use Rattle.bus_model.specs.Setup.{Setup, WellFormed}
use Rattle.audit.specs.First.{audited}
use Rattle.run_text.specs.RunLines.{IsTyped}

-- Each event of an audit is spelled, whatever its tables are.
abbrev pub AuditsAreSpelled : Type 0
AuditsAreSpelled =
    (setup : Setup) (schedule : List ℕ)
    → WellFormed setup
    → AllByRecursion (λ event. IsTyped event → InRange event) (audited setup schedule).journal
