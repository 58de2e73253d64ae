use Rattle.std.proofs.Common.{◌+◌, ◌∙◌, ap, arith, cond, drop, sym}
use Rattle.bus_model.specs.Configuration.{is_of_line}
use Rattle.audit.specs.Seen.{seen_after, with_seen}
use Rattle.audit.proofs.Seeing.{seen-next}
use Rattle.audit.proofs.harms.see.Goals as goal

pub loop-row-preserved : goal.loop-row-preserved
loop-row-preserved c =
    let i = c.loop-row.invariant in
    let e = c.with_row_of_line-seen.ensures in
    record {
      seen =
          ap (λ s. seen_after c.args.line c.args.latest s (drop (c.loop-row.row-index + 1) c.args.rows.now))
          (e.seen
          ∙ ap (λ r.
          cond (is_of_line c.args.line r) (with_seen c.args.latest c.loop-row.seen r) c.loop-row.seen) c.row-item.is)
          ∙ sym (seen-next c.args.line c.args.latest c.args.rows.now c.loop-row.row-index _ c.loop-row.seen
          c.loop-row-test.true)
          ∙ i.seen;
      owners = let more = e.owners in let few = i.owners in omega (arith, more, few);
      copies = let more = e.copies in let few = i.copies in omega (arith, more, few);
    }
