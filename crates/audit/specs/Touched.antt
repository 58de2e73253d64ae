-- The lines that an event touches. Nothing changes on any other, so only these can be harmed by it.
use Rattle.std.specs.Prelude.{ℕ, nat_le, Option, Some, None, if◌then◌else◌}
use Rattle.bus_model.specs.Setup.{Setup}
use Rattle.bus_model.specs.Events.{Event, Local, Drop, Raise, Grant, Connect, DataPhase}
use Rattle.bus_model.specs.Configuration.{Configuration}
use Rattle.bus_model.specs.Board.{access_line}
use Rattle.moesi_state.specs.declared.State.{State}
use Rattle.audit.specs.declared.finding.Harm.{Harm}
use Rattle.audit.specs.declared.harms.Touched.{Touched}
use Rattle.audit.specs.declared.harms.Touched.TheVariants.{NoLine, One, Two}
use Rattle.audit.specs.Steps.{displaced}
use Rattle.audit.specs.Harms.{or_later}

-- Two lines, the lower first.
abbrev pub in_order : ℕ → ℕ → Touched
in_order a b = if nat_le a b then Two a b else Two b a

-- The line of an access, and that of a row that goes, if one does.
abbrev pub with_displaced : ℕ → Option (ℕ × State) → Touched
with_displaced line None = One line
with_displaced line (Some v) = in_order line v.0

-- The lines that an event touches.
abbrev pub touched : Setup → Configuration → Event → Touched
touched setup c (Local board before state done) =
    with_displaced (access_line done.access)
    (displaced setup c.rows board (access_line done.access) state)
touched setup c (Drop board line before) = One line
touched setup c (Raise board) = NoLine
touched setup c (Grant by winner lines rounds) = NoLine
touched setup c (Connect t) = NoLine
touched setup c (DataPhase e) = One e.line

-- The lowest of the touched lines with a harm.
abbrev pub lowest_touched : (ℕ → Option Harm) → Touched → Option (Harm × ℕ)
lowest_touched harm NoLine = None
lowest_touched harm (One line) = or_later (harm line) line None
lowest_touched harm (Two a b) = or_later (harm a) a (or_later (harm b) b None)

-- The harm of a line that is one of so many.
abbrev pub harm_within : (ℕ → Option Harm) → ℕ → ℕ → Option Harm
harm_within harm lines line = if nat_le lines line then None else harm line
