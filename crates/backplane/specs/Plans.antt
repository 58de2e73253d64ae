-- The turn that a plan leads to.
use Rattle.std.specs.Prelude.{ℕ}
use Rattle.bus_model.specs.Setup.{Setup}
use Rattle.bus_model.specs.Events.{Local, Drop, Raise, Grant, Connect}
use Rattle.bus_model.specs.Configuration.{Configuration}
use Rattle.bus_model.specs.Turns.{Turn, Did, Waits, Finished, Why, LineHeld, BusTaken, transaction_of}
use Rattle.backplane.specs.declared.moved.Why.{Why as Cause}
use Rattle.backplane.specs.declared.plan.Plan.{Plan}

-- Why a board waits, in the model's words.
abbrev pub waits_for : Cause → Why
waits_for (Cause.Line master line) = LineHeld master line
waits_for (Cause.Bus master) = BusTaken master

-- The turn of a board that goes by a plan.
abbrev pub planned : Setup → Configuration → ℕ → Plan → Turn
planned setup c board Plan.Finish = Finished
planned setup c board (Plan.Wait why) = Waits (waits_for why)
planned setup c board (Plan.Settle before state done) = Did (Local board before state done)
planned setup c board (Plan.Drop line before) = Did (Drop board line before)
planned setup c board (Plan.Connect line event outcome) =
    Did (Connect (transaction_of setup c board line event outcome))
planned setup c board Plan.Raise = Did (Raise board)
planned setup c board (Plan.Grant winner lines rounds) = Did (Grant board winner lines rounds)
