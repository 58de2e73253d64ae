-- What a race leaves.
use Rattle.std.specs.Prelude.{◌≡◌, List, ◌++◌}
use Rattle.bus_model.specs.Events.{Event}

-- A journal goes on from an earlier one: the earlier one is a prefix of it.
pub record GoesOnFrom (earlier journal : List Event) : Type 0 where
  pub more : List Event
  pub is : journal ≡ earlier ++ more
