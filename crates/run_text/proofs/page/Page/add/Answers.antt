use Rattle.std.proofs.Common.{◌∙◌}
use Rattle.run_text.proofs.Behind.{not-flushed, passed-by}
use Rattle.run_text.proofs.page.Page.add.Goals as goal

pub returns-in-Err : goal.returns-in-Err
returns-in-Err g c =
    record {
      paged = not-flushed c.args.line.now c.in-Err.failed (c.keep.ensures.unchanged c.if-keep.false)
          c.in-Err.ensures.printed;
    }

pub returns : goal.returns
returns g c =
    let put = c.put_all.ensures in
    record {
      paged = passed-by c.in_default.field-0 c.put_all.result (c.keep.ensures.unchanged c.if-keep.false)
          (c.keep-2.ensures.unchanged c.if-keep-2.false ∙ c.in_default.ensures.empty) c.in_default.ensures.printed
          (record { whole = put.ok; front = put.err; cause = put.cause });
    }
