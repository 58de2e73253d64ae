-- The completed accesses of each board.
use Rattle.std.specs.Prelude.{◌≡◌, ℕ, List, [], ◌∷◌, ◌++◌, Option, Some, None, map, length, unwrap_or}
use Rattle.bus_signals.specs.declared.Access.{Access}
use Rattle.bus_model.specs.Places.{at_place, change_place}
use Rattle.bus_model.specs.Setup.{Setup, board_places}
use Rattle.bus_model.specs.Events.{Event, Done}
use Rattle.bus_model.specs.Entries.{Entry, entries, entries_of}

-- A list of entries for each board, and how many entries each has room for.
pub record Histories : Type 0 where
  pub entries : List (List Entry)
  pub rooms : List ℕ

-- No entries, with these rooms.
abbrev pub empty_histories : List ℕ → Histories
empty_histories rooms = record { entries = map (λ room. []) rooms; rooms = rooms }

-- The entries of a board.
abbrev pub history_of : Histories → ℕ → List Entry
history_of histories board = unwrap_or (at_place histories.entries board) []

-- How many entries a board has room for.
abbrev pub room_of : Histories → ℕ → ℕ
room_of histories board = unwrap_or (at_place histories.rooms board) 0

-- One more entry of a board.
abbrev pub added : Histories → ℕ → Entry → Histories
added histories board entry =
    record {
      entries = change_place (λ list. list ++ entry ∷ []) histories.entries board;
      rooms = histories.rooms;
    }

-- The entry of a completed access, if there is one.
abbrev pub kept : Histories → ℕ → ℕ → Option Done → Histories
kept histories board place None = histories
kept histories board place (Some done) =
    added histories board
    (record { board = board; place = place; access = done.access; reply = done.reply })

-- The histories keep what these events of a setup completed, with room for each board's whole
-- script.
pub record HistoriesKeep (setup : Setup) (events : List Event) (histories : Histories) : Type 0
  where
    pub entries :
        histories.entries ≡ map (λ board. entries_of board (entries events)) (board_places setup)
    pub rooms : histories.rooms ≡ map (λ (script : List Access). length script) setup.scripts
