-- The part of a configuration that the rack shows: its rows, and how many rows each board has
-- filled and draws it has spent.
use Rattle.std.specs.Prelude.{◌≡◌, map}
use Rattle.bus_model.specs.Configuration.{Configuration, Progress}
use Rattle.board.specs.Rack.{Rack, Counts}

-- The counts of what a board has done.
abbrev pub counts_from : Progress → Counts
counts_from p = record { fills = p.fills; spent = p.spent }

-- A rack shows a configuration: it has its rows and its counts.
pub record RackShows (c : Configuration) (rack : Rack) : Type 0 where
  pub rows : rack.rows ≡ c.rows
  pub counts : rack.counts ≡ map counts_from c.boards
