-- The data phase as a table: for each bus event where the words come from, whether the line becomes
-- the master's row, and who takes words besides the master.
use Rattle.std.specs.Prelude.{◌≡◌, Bool, List, []}
use Rattle.bus_signals.specs.declared.BusEvent.{BusEvent}
use Rattle.bus_model.specs.Events.{Answer, Source, Nobody, Takers}
use Rattle.bus_model.specs.Connecting.{intervener, capturers}
use Rattle.bus_model.specs.Carrying.{source_of, takers_of, fills_row, intervener_or_memory, intervener_takes, with_memory, no_takers}

-- Nobody but the master has words to give.
abbrev pub nobody : List Answer → Source
nobody answers = Nobody

-- The board that asserts DI gives the words, else memory.
abbrev pub owner_or_memory : List Answer → Source
owner_or_memory answers = intervener_or_memory (intervener answers)

-- No board but the master takes words, and memory takes none.
abbrev pub none_takes : List Answer → Takers
none_takes answers = no_takers

-- Memory and each board that asserts SL take the word.
abbrev pub memory_and_capturers : List Answer → Takers
memory_and_capturers answers = with_memory (capturers answers)

-- The board that asserts DI takes the word, else memory.
abbrev pub owner_or_memory_takes : List Answer → Takers
owner_or_memory_takes answers = intervener_takes (intervener answers)

-- Memory takes the line.
abbrev pub memory_takes : List Answer → Takers
memory_takes answers = with_memory []

-- A row of the table: in the data phase of the event the words come from this source, the line
-- becomes the master's row or does not, and these take words.
pub record Moves (event : BusEvent) (source : List Answer → Source) (fills : Bool)
    (takers : List Answer → Takers) : Type 0 where
  pub from : (answers : List Answer) → source_of event answers ≡ source answers
  pub row : fills_row event ≡ fills
  pub to : (answers : List Answer) → takers_of event answers ≡ takers answers
