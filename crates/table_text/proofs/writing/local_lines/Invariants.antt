use Rattle.std.proofs.Common.{◌≡◌, ◌≤◌, ◌+◌, ◌*◌, ◌++◌, length, take}
use Rattle.std.specs.Prelude.{flat_map}
use Rattle.table_text.specs.Writing.{cells_bytes, local_line}
use Rattle.table_text.proofs.writing.local_lines.Given as goal

abbrev pub invariant-loop-event : goal.invariant-loop-event
invariant-loop-event l = record {
  bytes :
      l.text.bytes
      ≡ l.initial.text.bytes ++ cells_bytes (flat_map (local_line l.table l.state) (take l.event-index l.events));
  room : 256 * length l.events ≤ l.text.spare + 256 * l.event-index;
  spare : l.initial.text.spare ≤ l.text.spare + 256 * l.event-index;
}
