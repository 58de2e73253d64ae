use Rattle.std.proofs.Common.{◌≡◌, ◌+◌, ◌-◌, ◌≤◌, IfSome}
use Rattle.fb_cli.proofs.Feeding.{HasRead}
use Rattle.fb_cli.proofs.replaying.feed_all.Given as goal

abbrev pub invariant-loop-taken : goal.invariant-loop-taken
invariant-loop-taken g l = record {
  in_range : l.taken ≤ l.limit + 1;
  later : g.F.Shelf.faults l.initial.shelf ≤ g.F.Shelf.faults l.shelf;
  file : g.F.Shelf.file l.shelf ≡ g.F.Shelf.file l.initial.shelf;
  setup : l.replay.setup ≡ l.initial.replay.setup;
  read :
      IfSome (g.F.Shelf.rest l.initial.shelf)
      (λ bytes. HasRead l.initial.replay l.replay l.taken bytes (g.F.Shelf.rest l.shelf));
}

abbrev pub decreases-loop-taken : goal.decreases-loop-taken
decreases-loop-taken g l = l.limit + 1 - l.taken
