use Rattle.std.proofs.Common.{List, arith, drop, rules, subst, sym, ℕ, ◌++◌, ◌∙◌}
use Rattle.std.proofs.lemmas.List.{take-append-le}
use Rattle.replayer.specs.Standing.{StandsFor}
use Rattle.fb_cli.proofs.Feeding.{more_read}
use Rattle.fb_cli.proofs.replaying.feed_all.Goals as goal

pub loop-taken-preserved : goal.loop-taken-preserved
loop-taken-preserved g c =
    let i = c.loop-taken.invariant in
    let next = c.in-Ok.ensures in
    let later = i.later in
    let more = next.cause.later in
    record {
      in_range = search rules;
      later = omega (arith, later, more);
      file = next.file ∙ i.file;
      setup = c.feed.ensures.setup ∙ i.setup;
      read =
          more_read _ c.args.replay.now c.loop-taken.replay c.feed.new.self _ _ _ _ _ i.read next.bytes.0
          (sym next.bound.1)
          (λ text stands.
          subst (λ (p : List ℕ). StandsFor c.feed.new.self (text ++ p))
          (take-append-le c.in-Ok.count c.next.new.into (drop c.min-want.result c.loop-taken.piece) next.bound.0)
          (c.feed.ensures.stands text stands));
    }
