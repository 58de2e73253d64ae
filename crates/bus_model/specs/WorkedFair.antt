-- A small run in which the bus is arbitrated fairly, and the run of the same turns by number alone:
-- each has a setup, its schedule, the events of the schedule's turns, and the configuration to
-- which they lead.
use Rattle.std.specs.Prelude.{ℕ, true, false, List, [], ◌∷◌, Some}
use Rattle.bus_signals.specs.declared.BusEvent.TheVariants.{Urd}
use Rattle.moesi_state.specs.declared.State.TheVariants.{I}
use Rattle.moesi_state.specs.declared.Outcome.TheVariants.{Fixed}
use Rattle.table_check.specs.KnownTables.{uncached}
use Rattle.bus_model.specs.Setup.{Setup}
use Rattle.bus_model.specs.Events.{Event, Raise, Grant, Connect, Memory}
use Rattle.bus_model.specs.Configuration.{Configuration, Idle, Granted, ByNumber, Fair}
use Rattle.bus_model.specs.Carrying.{no_takers}
use Rattle.bus_model.specs.WorkedWords.{read, plain_board, connection, data_of, did, progress}

-- A board that won is passed over until the other one was served, and then the marks are cleared.
abbrev pub passed_over : Setup
passed_over = record {
  memory = 0 ∷ 0 ∷ 0 ∷ 0 ∷ [];
  fair = true;
  tables = uncached ∷ [];
  boards = plain_board 10 0 ∷ plain_board 9 0 ∷ [];
  scripts = (read 0 ∷ read 0 ∷ []) ∷ (read 0 ∷ []) ∷ [];
}

abbrev pub passed_over_schedule : List ℕ
passed_over_schedule = 1 ∷ 2 ∷ 1 ∷ 1 ∷ 1 ∷ 1 ∷ 1 ∷ 2 ∷ 2 ∷ 1 ∷ 1 ∷ 1 ∷ []

abbrev pub passed_over_events : List Event
passed_over_events =
    Raise 1
    ∷ Raise 2
    ∷ Grant 1 1 10 1
    ∷ Connect (connection 1 Urd 0 (Fixed I) ([]))
    ∷ data_of 1 Urd 0 Memory no_takers ((1, I) ∷ []) (Some (did (read 0) (Some 0)))
    ∷ Raise 1
    ∷ Grant 1 2 9 0
    ∷ Connect (connection 2 Urd 0 (Fixed I) ([]))
    ∷ data_of 2 Urd 0 Memory no_takers ((2, I) ∷ []) (Some (did (read 0) (Some 0)))
    ∷ Grant 1 1 10 0
    ∷ Connect (connection 1 Urd 0 (Fixed I) ([]))
    ∷ data_of 1 Urd 0 Memory no_takers ((1, I) ∷ []) (Some (did (read 0) (Some 0)))
    ∷ []

abbrev pub passed_over_end : Configuration
passed_over_end = record {
  memory = (0 ∷ 0 ∷ 0 ∷ 0 ∷ []) ∷ [];
  rows = [];
  boards = progress 2 0 2 ∷ progress 1 0 1 ∷ [];
  phase = Idle;
  arbitration = Fair (true ∷ false ∷ []);
}

-- By number alone the board with the highest number wins again.
abbrev pub starving : Setup
starving = record passed_over { fair = false }

abbrev pub starving_schedule : List ℕ
starving_schedule = 1 ∷ 2 ∷ 1 ∷ 1 ∷ 1 ∷ 1 ∷ 1 ∷ []

abbrev pub starving_events : List Event
starving_events =
    Raise 1
    ∷ Raise 2
    ∷ Grant 1 1 10 1
    ∷ Connect (connection 1 Urd 0 (Fixed I) ([]))
    ∷ data_of 1 Urd 0 Memory no_takers ((1, I) ∷ []) (Some (did (read 0) (Some 0)))
    ∷ Raise 1
    ∷ Grant 1 1 10 1
    ∷ []

abbrev pub starving_end : Configuration
starving_end = record {
  memory = (0 ∷ 0 ∷ 0 ∷ 0 ∷ []) ∷ [];
  rows = [];
  boards = progress 1 0 1 ∷ record { place = 0; fills = 0; spent = 0; raised = true } ∷ [];
  phase = Granted 1;
  arbitration = ByNumber;
}
