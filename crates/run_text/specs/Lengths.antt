-- How long the text of a run can be.
use Rattle.std.specs.Prelude.{◌≤◌, List, length}
use Rattle.std.specs.List.{AllByRecursion}
use Rattle.trace_text.specs.Ranges.{InRange}
use Rattle.bus_model.specs.Setup.{Setup, WellFormed, AllInClass}
use Rattle.bus_model.specs.Events.{Event}
use Rattle.bus_model.specs.Configuration.{opening}
use Rattle.bus_model.specs.Runs.{Run, after_all}
use Rattle.run_text.specs.RunText.{run_text}

-- The text of every run of a setup within its limits has at most the 268,435,456 bytes that a trace
-- may have.
abbrev pub RunTextsFit : Type 0
RunTextsFit =
    (setup : Setup) (events : List Event)
    → WellFormed setup → AllInClass setup → Run setup events (after_all (opening setup) events)
    → AllByRecursion InRange events
    → length (run_text setup events (after_all (opening setup) events)) ≤ 268435456
