-- Events: what happens to the machine in one step.
pub use Rattle.journal.specs.declared.answers.Answer.{Answer}
pub use Rattle.journal.specs.declared.event.Done.{Done}
pub use Rattle.journal.specs.declared.event.Source.{Source}
pub use Rattle.journal.specs.declared.event.Source.TheVariants.{Nobody, Memory, Board}
pub use Rattle.journal.specs.declared.event.Takers.{Takers}
pub use Rattle.journal.specs.declared.event.Carried.{Carried}
pub use Rattle.journal.specs.declared.event.Event.{Event}
pub use Rattle.journal.specs.declared.event.Event.TheVariants.{Local, Drop, Raise, Grant, Connect, DataPhase}
use Rattle.journal.specs.declared.event.Connected.{Connected}

-- A transaction whose answers are in, and whose data has not moved yet. `Connected` is also the
-- name of the phase in which it is.
abbrev pub Transaction : Type 0
Transaction = Connected
