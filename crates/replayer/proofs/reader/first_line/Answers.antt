use Rattle.std.proofs.Common.{subst}
use Rattle.memchr.specs.Find.{IsFirstByte, is_byte}
use Rattle.replayer.proofs.Finding.{cut_there, lacks}
use Rattle.replayer.proofs.reader.first_line.Goals as goal

pub returns-in_default : goal.returns-in_default
returns-in_default c =
    lacks c.args.text.now (subst (IsFirstByte (is_byte 10) c.args.text.now) c.in_default.is c.memchr.ensures)

pub returns : goal.returns
returns c =
    let found = subst (IsFirstByte (is_byte 10) c.args.text.now) c.in-Some.is c.memchr.ensures in
    cut_there c.args.text.now c.in-Some.end c.cut.result.0.now c.cut.result.1.now found.0.before found.0.high found.1
    c.cut.ensures.front c.cut.ensures.back
