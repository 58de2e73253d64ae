-- Turns: what a board does when it is its turn, with the alternatives that its chooser picks.
use Rattle.std.specs.Prelude.{ℕ, ◌*◌, ◌%◌, ◌^◌, Bool, true, false, not, ◌&&◌, ◌==◌, List, [], ◌∷◌, ◌++◌, Option, Some, None, length, map, slice_index_or, if◌then◌else◌}
use Rattle.rand_core.specs.Pcg32Seed.{pcg32_seed}
use Rattle.rand_pcg.specs.Lcg.{advance}
use Rattle.rand_pcg.specs.Pcg.{pcg32, pcg32_of_seed, multiplier_64}
use Rattle.bus_signals.specs.declared.Access.{Access}
use Rattle.bus_signals.specs.declared.BusEvent.{BusEvent}
use Rattle.bus_signals.specs.declared.BusEvent.TheVariants.{Flu}
use Rattle.moesi_state.specs.declared.State.{State}
use Rattle.moesi_state.specs.declared.State.TheVariants.{I}
use Rattle.moesi_state.specs.declared.Outcome.{Outcome}
use Rattle.moesi_state.specs.declared.Outcome.TheVariants.{Fixed}
use Rattle.moesi_state.specs.Outcomes.{settled, is_invalid}
use Rattle.class_relation.specs.declared.LocalAction.{LocalAction}
use Rattle.class_relation.specs.declared.SnoopAction.{SnoopAction}
use Rattle.class_relation.specs.Actions.{silently, answer}
use Rattle.class_relation.specs.Tables.{answers_of}
use Rattle.bus_model.specs.Places.{repeated}
use Rattle.bus_model.specs.Setup.{Setup, Choose, First, Round, Seed, choose_of, table_of, board_places, access_count}
use Rattle.bus_model.specs.Events.{Event, Local, Drop, Raise, Grant, Connect, DataPhase, Transaction}
use Rattle.bus_model.specs.Configuration.{Configuration, Phase, Idle, Granted, Connected, opening, state_at, words_at, progress_of, present_access, is_raised, is_granted, is_held}
use Rattle.bus_model.specs.Board.{access_line, cell_of, victim, is_clean}
use Rattle.bus_model.specs.Settling.{settled_lines, settled_rounds}
use Rattle.bus_model.specs.Arbitration.{competing_numbers, winner_of}
use Rattle.bus_model.specs.Connecting.{other_holders}
use Rattle.bus_model.specs.Carrying.{carried_of, reply_of}
use Rattle.bus_model.specs.Steps.{is_quiet, after}

-- The n-th word, counted from 0, of the generator that is made of a seed.
unfoldable pub seeded_word : ℕ → ℕ → ℕ
seeded_word seed n = (pcg32 (advance 64 multiplier_64 n (pcg32_of_seed (pcg32_seed 16 seed)))).0

-- The n-th draw of a chooser, counted from 0.
abbrev pub draw : Choose → ℕ → ℕ
draw First n = 0
draw Round n = n % 2 ^ 32
draw (Seed seed) n = seeded_word seed n

-- The alternative that a chooser picks with its n-th draw. A list without alternatives gives the
-- other value.
abbrev pub pick : {X : Type 0} → X → Choose → ℕ → List X → X
pick other choose n xs = slice_index_or xs (draw choose n % length xs) other

-- The alternative that a board picks for an access.
abbrev pub decide : Setup → Configuration → ℕ → Access → LocalAction
decide setup c board access =
    pick (silently I) (choose_of setup board) (progress_of c.boards board).spent
    (cell_of setup c.rows board access)

-- The answer that a board picks for a transaction.
abbrev pub decide_answer : Setup → Configuration → ℕ → ℕ → BusEvent → SnoopAction
decide_answer setup c board line event =
    pick (answer I false false false) (choose_of setup board) (progress_of c.boards board).spent
    (answers_of (table_of setup board) (state_at c.rows board line) event)

-- The transaction that a board connects, with the answers that the other boards pick.
abbrev pub transaction_of : Setup → Configuration → ℕ → ℕ → BusEvent → Outcome → Transaction
transaction_of setup c board line event outcome = record {
  master = board;
  event = event;
  line = line;
  outcome = outcome;
  answers =
      map (λ other. record { board = other; action = decide_answer setup c other line event })
      (other_holders setup c.rows board line);
}

-- Why a board waits: another board's transaction is connected on the line, or has the bus.
pub data Why : Type 0 where
  LineHeld : (master : ℕ) → (line : ℕ) → Why
  BusTaken : (master : ℕ) → Why

-- What a turn does: an event, nothing for now, or nothing any more.
pub data Turn : Type 0 where
  Did : (event : Event) → Turn
  Waits : (why : Why) → Turn
  Finished : Turn

-- The board that has the bus, granted or connected.
abbrev pub bus_holder : Phase → ℕ
bus_holder Idle = 0
bus_holder (Granted board) = board
bus_holder (Connected t) = t.master

-- The transaction of a board that is connected, if it is this board's.
abbrev pub own_transaction : Phase → ℕ → Option Transaction
own_transaction Idle board = None
own_transaction (Granted b) board = None
own_transaction (Connected t) board = if t.master == board then Some t else None

-- The victim that must go before an outcome: none where the outcome leaves no copy.
abbrev pub victim_for : Setup → Configuration → ℕ → Access → Outcome → Option (ℕ × State)
victim_for setup c board access outcome =
    if is_invalid outcome then None else victim setup c.rows board (access_line access)

-- A turn of a board does the first of eight cases that fits. `turn` has cases 1 to 4, and this has
-- cases 5 to 8: those of a transaction, which is the pick's or the flush of a victim.
abbrev pub by_bus : Setup → Configuration → ℕ → ℕ → BusEvent → Outcome → Turn
by_bus setup c board line event outcome =
    -- 5. The bus is granted to the board.
    if is_granted c.phase board
    then Did (Connect (transaction_of setup c board line event outcome))
    -- 6. No request is raised.
    else elim (is_raised c.boards board) [
      | false ↦ Did (Raise board)
      | true ↦
          elim c.phase [
            -- 7. The bus is idle: whoever wins gets it.
            | Idle ↦
                let numbers = competing_numbers setup c.arbitration c.boards in
                let winner = winner_of setup c.arbitration c.boards in
                Did (Grant board winner (settled_lines numbers) (settled_rounds numbers))
            -- 8. Another board has the bus.
            | Granted b ↦ Waits (BusTaken b)
            | Connected t ↦ Waits (BusTaken t.master)
          ]
    ]

-- What a turn of a board does.
abbrev pub turn : Setup → Configuration → ℕ → Turn
turn setup c board =
    elim (present_access setup c.boards board) [
      -- 1. The script is at its end.
      | None ↦ Finished
      | Some access ↦
          elim (own_transaction c.phase board) [
            -- 2. The board is connected.
            | Some t ↦ Did (DataPhase (carried_of setup c t))
            | None ↦
                let chosen = decide setup c board access in
                let line = access_line access in
                elim chosen.bus [
                  -- 3. The pick needs no bus.
                  | None ↦
                      let before = state_at c.rows board line in
                      let next = settled chosen.result false in
                      let reply = reply_of access (words_at c.rows board line) in
                      if is_held c.phase board line && not (is_quiet access before next)
                      then Waits (LineHeld (bus_holder c.phase) line)
                      else Did (Local board before next
                      (record { access = access; reply = reply }))
                  | Some event ↦
                      elim (victim_for setup c board access chosen.result) [
                        | None ↦ by_bus setup c board line event chosen.result
                        -- 4. A victim must go first.
                        | Some v ↦
                            if is_clean v.1
                            then (if is_held c.phase board v.0
                            then Waits (LineHeld (bus_holder c.phase) v.0)
                            else Did (Drop board v.0 v.1))
                            else by_bus setup c board v.0 Flu (Fixed I)
                      ]
                ]
          ]
    ]

-- The events of these turns, one after another.
abbrev pub events_of_turns : Setup → Configuration → List ℕ → List Event
events_of_turns setup c [] = []
events_of_turns setup c (board ∷ boards) =
    elim (turn setup c board) [
      | Did event ↦ event ∷ events_of_turns setup (after c event) boards
      | Waits why ↦ events_of_turns setup c boards
      | Finished ↦ events_of_turns setup c boards
    ]

-- What a schedule plays: first its turns, and then rounds, in which each board has one turn
-- in order.
abbrev pub played : Setup → List ℕ → List Event
played setup schedule =
    events_of_turns setup (opening setup)
    (schedule ++ repeated (8 * access_count setup) (board_places setup))
