use Rattle.std.proofs.Common.{◌≡◌, ◌≤◌, ◌+◌, ◌*◌, ◌++◌, take}
use Rattle.std.specs.List.{flat_map}
use Rattle.fb_text.specs.Written.{KeepsRoom}
use Rattle.tally.specs.Tally.{counts_line}
use Rattle.tally.proofs.text.event_lines.Given as goal

-- the lines so far, and room for the others
abbrev pub invariant-loop-event : goal.invariant-loop-event
invariant-loop-event l = record {
  bytes : l.text.bytes ≡ l.initial.text.bytes ++ flat_map (counts_line l.counts) (take l.event-index l.events);
  spare : l.initial.text.spare ≤ l.text.spare + 32 * l.event-index;
  kept : KeepsRoom l.initial.text l.text;
}
