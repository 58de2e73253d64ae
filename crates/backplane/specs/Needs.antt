-- How much a machine needs for its whole life, computed from its setup.
use Rattle.std.specs.Prelude.{ℕ, ◌*◌, length}
use Rattle.std.specs.List.{sum_by}
use Rattle.bus_model.specs.Setup.{Setup, access_count, board_places}
use Rattle.bus_model.specs.Entries.{entries, entries_of}
use Rattle.board.specs.Rack.{all_ways}
use Rattle.backplane.specs.declared.sizes.Need.{Need}
use Rattle.backplane.specs.Machine.{Machine}

-- What a setup needs room for: eight events and one reply for each access, and the frames of all
-- caches.
abbrev pub needed : Setup → Need
needed setup =
    record {
      events = 8 * access_count setup;
      replies = access_count setup;
      frames = all_ways setup.boards;
    }

-- How many replies all boards of a machine have together.
abbrev pub reply_count : Machine → ℕ
reply_count machine =
    sum_by (λ board. length (entries_of board (entries machine.journal)))
    (board_places machine.setup)
