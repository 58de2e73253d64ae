-- The words of bus events are not those of local events.
use Rattle.std.proofs.Common.{◌≡◌, true, Option, None, Some, refl}
use Rattle.std.specs.Prelude.{is_none}
use Rattle.bus_signals.specs.declared.BusEvent.{BusEvent}
use Rattle.bus_signals.proofs.Events.{each_bus}
use Rattle.class_words.specs.Words.{bus_event_word, local_event_of}

none-is : {X : Type 0} (o : Option X) → is_none o ≡ true → o ≡ None
none-is None h = refl
none-is (Some x) h = cc

-- No bus event is written as a local one.
pub no_local_event : (e : BusEvent) → local_event_of (bus_event_word e) ≡ None
unfolding local_event_of
no_local_event e =
    none-is (local_event_of (bus_event_word e)) (each_bus (λ e. is_none (local_event_of (bus_event_word e))) refl e)
