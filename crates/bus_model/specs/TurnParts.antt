-- The parts of a turn, one by one, as code plans it and proofs take it apart. `turn` is the whole.
use Rattle.std.specs.Prelude.{ℕ, Bool, true, false, not, ◌&&◌, Option, Some, None, if◌then◌else◌}
use Rattle.bus_signals.specs.declared.Access.{Access}
use Rattle.bus_signals.specs.declared.BusEvent.{BusEvent}
use Rattle.bus_signals.specs.declared.BusEvent.TheVariants.{Flu}
use Rattle.moesi_state.specs.declared.State.{State}
use Rattle.moesi_state.specs.declared.State.TheVariants.{I}
use Rattle.moesi_state.specs.declared.Outcome.{Outcome}
use Rattle.moesi_state.specs.declared.Outcome.TheVariants.{Fixed}
use Rattle.moesi_state.specs.Outcomes.{settled}
use Rattle.bus_model.specs.Setup.{Setup}
use Rattle.bus_model.specs.Events.{Local, Drop, Raise, Grant, Connect, DataPhase, Transaction}
use Rattle.bus_model.specs.Configuration.{Configuration, Phase, Idle, Granted, Connected, state_at, words_at, is_raised, is_granted, is_held}
use Rattle.bus_model.specs.Board.{access_line, is_clean}
use Rattle.bus_model.specs.Settling.{settled_lines, settled_rounds}
use Rattle.bus_model.specs.Arbitration.{competing_numbers, winner_of}
use Rattle.bus_model.specs.Carrying.{carried_of, reply_of}
use Rattle.bus_model.specs.Steps.{is_quiet}
use Rattle.bus_model.specs.Turns.{Turn, Did, Waits, Finished, LineHeld, BusTaken, bus_holder, own_transaction, victim_for, transaction_of, decide}

-- A turn without the bus (case 3): the board completes its access, or waits for a line that is
-- held.
abbrev pub local_turn : Setup → Configuration → ℕ → Access → State → Turn
local_turn setup c board access state =
    let line = access_line access in
    let before = state_at c.rows board line in
    if is_held c.phase board line && not (is_quiet access before state)
    then Waits (LineHeld (bus_holder c.phase) line)
    else Did (Local board before state
    (record { access = access; reply = reply_of access (words_at c.rows board line) }))

-- The grant of a turn (case 7).
abbrev pub grant_turn : Setup → Configuration → ℕ → Turn
grant_turn setup c board =
    let numbers = competing_numbers setup c.arbitration c.boards in
    let winner = winner_of setup c.arbitration c.boards in
    Did (Grant board winner (settled_lines numbers) (settled_rounds numbers))

-- A turn of a board that has no grant and needs the bus: it raises a request (case 6), with a
-- request raised it grants the bus where the bus is idle (case 7), and else it waits (case 8).
abbrev pub request_turn : Setup → Configuration → ℕ → Bool → Phase → Turn
request_turn setup c board false phase = Did (Raise board)
request_turn setup c board true Idle = grant_turn setup c board
request_turn setup c board true (Granted b) = Waits (BusTaken b)
request_turn setup c board true (Connected t) = Waits (BusTaken t.master)

-- A turn for a transaction: a board that is granted the bus connects (case 5).
abbrev pub bus_turn : Setup → Configuration → ℕ → ℕ → BusEvent → Outcome → Bool → Turn
bus_turn setup c board line event outcome true =
    Did (Connect (transaction_of setup c board line event outcome))
bus_turn setup c board line event outcome false =
    request_turn setup c board (is_raised c.boards board) c.phase

-- A turn that must first make room by a victim: a clean victim is dropped unless its line is held,
-- and any other is flushed (case 4).
abbrev pub room_turn : Setup → Configuration → ℕ → ℕ → State → Bool → Turn
room_turn setup c board line state true =
    if is_held c.phase board line
    then Waits (LineHeld (bus_holder c.phase) line)
    else Did (Drop board line state)
room_turn setup c board line state false =
    bus_turn setup c board line Flu (Fixed I) (is_granted c.phase board)

-- A turn by a transaction, once it is known whether there must be a victim.
abbrev pub transaction_turn :
    Setup → Configuration → ℕ → Access → BusEvent → Outcome → Option (ℕ × State) → Turn
transaction_turn setup c board access event outcome None =
    bus_turn setup c board (access_line access) event outcome (is_granted c.phase board)
transaction_turn setup c board access event outcome (Some v) =
    room_turn setup c board v.0 v.1 (is_clean v.1)

-- A turn with the alternative that the board picks.
abbrev pub action_turn : Setup → Configuration → ℕ → Access → Outcome → Option BusEvent → Turn
action_turn setup c board access outcome None =
    local_turn setup c board access (settled outcome false)
action_turn setup c board access outcome (Some event) =
    transaction_turn setup c board access event outcome (victim_for setup c board access outcome)

-- A turn for the present access.
abbrev pub access_turn : Setup → Configuration → ℕ → Access → Option Transaction → Turn
access_turn setup c board access (Some t) = Did (DataPhase (carried_of setup c t))
access_turn setup c board access None =
    let action = decide setup c board access in
    action_turn setup c board access action.result action.bus

-- A turn of a board, by what it still has to do: without an access it is finished (case 1).
abbrev pub turn_for : Setup → Configuration → ℕ → Option Access → Turn
turn_for setup c board None = Finished
turn_for setup c board (Some access) =
    access_turn setup c board access (own_transaction c.phase board)
