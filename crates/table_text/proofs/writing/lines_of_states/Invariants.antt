use Rattle.std.proofs.Common.{◌≡◌, ◌≤◌, ◌+◌, ◌*◌, ◌++◌, length, take}
use Rattle.std.specs.Prelude.{flat_map}
use Rattle.table_text.specs.Writing.{cells_bytes, state_lines, state_room}
use Rattle.table_text.proofs.writing.lines_of_states.Given as goal

abbrev pub invariant-loop-state : goal.invariant-loop-state
invariant-loop-state l = record {
  bytes :
      l.text.bytes ≡ l.initial.text.bytes ++ cells_bytes (flat_map (state_lines l.table) (take l.state-index l.states));
  room : state_room * length l.states ≤ l.text.spare + state_room * l.state-index;
  spare : l.initial.text.spare ≤ l.text.spare + state_room * l.state-index;
}
