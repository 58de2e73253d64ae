use Rattle.std.proofs.Common.{sym, ◌∙◌}
use Rattle.replayer.proofs.Meanings.{means_event, means_none}
use Rattle.replayer.proofs.reader.meaning.Goals as goal

pub returns-in-Some : goal.returns-in-Some
returns-in-Some c =
    means_event c.args.line.now c.in-Some.event (sym c.is.ensures ∙ c.if-is.false) c.in-Some.ensures.spelled.0
    c.in-Some.ensures.spelled.1

pub returns-in-None : goal.returns-in-None
returns-in-None c = means_none c.args.line.now (sym c.is.ensures ∙ c.if-is.false) c.in-None.ensures.none
