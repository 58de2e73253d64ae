use Rattle.std.proofs.Common.{◌≡◌, ◌≤◌}
use Rattle.fb_cli.proofs.seen.Seen.measure.Given as goal

abbrev pub invariant-loop-read : goal.invariant-loop-read
invariant-loop-read g l = record {
  later : g.F.Shelf.faults l.initial.shelf ≤ g.F.Shelf.faults l.shelf;
  file : g.F.Shelf.file l.shelf ≡ g.F.Shelf.file l.initial.shelf;
}
