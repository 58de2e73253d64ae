use Rattle.std.proofs.Common.{ℕ, ◌+◌, ap, ◌∙◌, arith, length-set}
use Rattle.table_library.specs.Traffic.{Traffic, counts_of, counts_at}
use Rattle.table_library.proofs.Boards.{boards_more, board_at}
use Rattle.table_library.proofs.counting.traffic.Goals as goal

pub loop-place-preserved : goal.loop-place-preserved
loop-place-preserved c = record {
  long = length-set c.loop-place.boards c.loop-place.place c.counts_of.result ∙ c.loop-place.invariant.long;
  counted =
      boards_more (λ (k : ℕ). counts_of c.args.journal.now (k + 1)) c.loop-place.boards c.loop-place.place
      c.counts_of.result (omega (arith, c.loop-place.invariant.long, c.loop-place-test.true)) c.counts_of.ensures
      c.loop-place.invariant.counted;
}

pub returns-clause-boards : goal.returns-clause-boards
returns-clause-boards c board first last =
    ap (λ (t : Traffic). counts_at t board) c.of.ensures
    ∙ board_at (λ (n : ℕ). counts_of c.args.journal.now n) c.loop-place.boards 16
    (λ k below. c.loop-place.invariant.counted k (omega (arith, below, c.loop-place-test.false))) board first last
