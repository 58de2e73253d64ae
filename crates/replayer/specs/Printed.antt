-- The lines of a run that was printed.
use Rattle.std.specs.Prelude.{◌≡◌, ℕ, List, ◌∷◌, ◌++◌, codes}
use Rattle.std.specs.List.{flat_map, AllByRecursion}
use Rattle.journal.specs.declared.event.Event.{Event}
use Rattle.trace_text.specs.Ranges.{InRange}
use Rattle.trace_text.specs.Spelling.{line_of_event}
use Rattle.replayer.specs.Lines.{trace_of, event_lines}

-- The trace of the lines of events, the line `end` and anything after it is these lines.
abbrev pub PrintedEventsAreTraces : Type 0
PrintedEventsAreTraces =
    (events : List Event) (rest : List ℕ) → AllByRecursion InRange events
    → trace_of (flat_map line_of_event events ++ (codes "end" ++ 10 ∷ rest)) ≡ event_lines events
