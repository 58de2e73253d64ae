use Rattle.std.proofs.Common.{append_assoc}
use Rattle.fb_cli.proofs.Spaced.{after_words-append}
use Rattle.fb_cli.proofs.report.write_forbidden.Goals as goal

pub returns : goal.returns
returns c =
    rw (
      c.push-3.ensures.bytes,
      c.write_alternative.ensures.bytes,
      c.number.ensures.bytes,
      c.push-2.ensures.bytes,
      c.write_cell.ensures.bytes,
      c.push.ensures.bytes,
      c.from.ensures,
      after_words-append,
    )
    (simp append_assoc)
