-- The lists of events contain every event, each at its number.
use Rattle.std.specs.Prelude.{◌≡◌, Some, slice_get}
use Rattle.bus_signals.specs.declared.BusEvent.{BusEvent}
use Rattle.bus_signals.specs.declared.LocalEvent.{LocalEvent}
use Rattle.bus_signals.specs.Accesses.{local_events, local_number}
use Rattle.bus_signals.specs.Signals.{bus_events, event_number}

-- Each bus event is in the list at its number.
abbrev pub BusEventsAreListed : Type 0
BusEventsAreListed = (event : BusEvent) → slice_get bus_events (event_number event) ≡ Some event

-- Each local event is in the list at its number.
abbrev pub LocalEventsAreListed : Type 0
LocalEventsAreListed =
    (event : LocalEvent) → slice_get local_events (local_number event) ≡ Some event
