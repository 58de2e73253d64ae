use Rattle.std.proofs.Common.{◌∷◌, [], arith}
use Rattle.std.proofs.lemmas.List.{length-append}
use Rattle.board.specs.Sets.{LineSet}
use Rattle.board.proofs.Kept.{empty-push}
use Rattle.board.proofs.station.empty_sets.Goals as goal

pub loop-preserved : goal.loop-preserved
loop-preserved c =
    let e = c.in-Ok.ensures.items in
    let i = c.loop.invariant in
    let s : LineSet = c.in_ok-set.set in
    let n = length-append c.loop.sets.items (s ∷ []) in
    let long = i.long in
    record {
      long = rw e (omega arith);
      empty =
          rw e (empty-push c.args.ways c.loop.sets.items s i.empty c.in_ok-set.ensures.empty c.in_ok-set.ensures.room);
    }
