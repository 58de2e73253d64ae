-- The configuration after an event of any tables. It differs from that of accepted tables where a
-- board fills a row without the bus, and where words are moved for an access that an accepted table
-- would not serve so.
use Rattle.std.specs.Prelude.{ℕ, not, ◌&&◌, ◌==◌, List, [], ◌∷◌, Option, Some, None, slice_index, slice_set, if◌then◌else◌}
use Rattle.std.specs.List.{list_any}
use Rattle.bus_signals.specs.Accesses.{address_of, offset_of}
use Rattle.moesi_state.specs.declared.State.{State}
use Rattle.moesi_state.specs.States.{holds}
use Rattle.bus_model.specs.Setup.{Setup}
use Rattle.bus_model.specs.Events.{Event, Local, Drop, Raise, Grant, Connect, DataPhase, Done, Carried}
use Rattle.bus_model.specs.Configuration.{Configuration, Row, Idle, is_of_line, memory_line}
use Rattle.bus_model.specs.Board.{access_line, victim}
use Rattle.bus_model.specs.Carrying.{writes_line, master_words, state_in, row_if, state_of_master}
use Rattle.bus_model.specs.Effects.{in_phase, change_rows, put_copy, drop_copy, put_memory}
use Rattle.bus_model.specs.Steps.{after, after_local, complete_if}

-- The row that goes where a board comes to a copy without the bus: where the line's set is full and
-- the board does not hold the line, it is the victim.
abbrev pub displaced : Setup → List Row → ℕ → ℕ → State → Option (ℕ × State)
displaced setup rows board line state =
    if holds state then victim setup rows board line else None

-- The configuration without the row of a board that goes, if one does.
abbrev pub without_displaced : Configuration → ℕ → Option (ℕ × State) → Configuration
without_displaced c board None = c
without_displaced c board (Some v) = drop_copy c board v.0

-- The configuration after a board completed an access without the bus.
abbrev pub after_any_local : Setup → Configuration → ℕ → State → Done → Configuration
after_any_local setup c board state done =
    after_local (without_displaced c board
    (displaced setup c.rows board (access_line done.access) state)) board state done

-- Words that take the one that a transaction carries: the master's word at the address of the
-- access.
abbrev pub carried_into : Option Done → List ℕ → List ℕ → List ℕ
carried_into None own words = words
carried_into (Some done) own words =
    let offset = offset_of (address_of done.access) in
    slice_set words offset (slice_index own offset)

-- A line of memory after a data phase in which memory takes: the master's line, or the one word.
abbrev pub any_memory_words : Configuration → Carried → List ℕ
any_memory_words c e =
    if writes_line e.event
    then master_words c e
    else carried_into e.done (master_words c e) (memory_line c.memory e.line)

-- The words of another board's row after a data phase: those that take get the one word.
abbrev pub any_taken_words : Carried → List ℕ → Row → List ℕ
any_taken_words e own row =
    if list_any (λ board. board == row.board) e.takers.boards
    then carried_into e.done own row.words
    else row.words

-- A row after a data phase, but for the master's.
abbrev pub any_answering_row : Carried → List ℕ → Row → Option Row
any_answering_row e own row =
    if is_of_line e.line row && not (row.board == e.master)
    then row_if (state_in e.states row.board) (any_taken_words e own row) row
    else Some row

-- The configuration after the data of a transaction moved. The master's words are those that it has
-- after its access, and everybody who takes gets them, or the one word, from it.
abbrev pub after_any_data : Configuration → Carried → Configuration
after_any_data c e =
    let own = master_words c e in
    let remembered = if e.takers.memory then put_memory c e.line (any_memory_words c e) else c in
    let answering = change_rows (any_answering_row e own) remembered in
    let placed = put_copy answering e.master e.line (state_of_master e) own in
    in_phase Idle (complete_if e.done placed e.master)

-- The configuration after an event of any tables.
abbrev pub after_any : Setup → Configuration → Event → Configuration
after_any setup c (Local board before state done) = after_any_local setup c board state done
after_any setup c (Drop board line before) = after c (Drop board line before)
after_any setup c (Raise board) = after c (Raise board)
after_any setup c (Grant by winner lines rounds) = after c (Grant by winner lines rounds)
after_any setup c (Connect t) = after c (Connect t)
after_any setup c (DataPhase e) = after_any_data c e

-- The configuration after a list of events of any tables.
abbrev pub after_any_all : Setup → Configuration → List Event → Configuration
after_any_all setup c [] = c
after_any_all setup c (event ∷ events) = after_any_all setup (after_any setup c event) events
