use Rattle.std.proofs.Common.{subst, sym}
use Rattle.arbiter.specs.Contests.{IsContest}
use Rattle.audit.specs.Parts.{arbitration_of}
use Rattle.audit.proofs.Granting.{is_contest}
use Rattle.audit.proofs.grants.contest.Goals as goal

pub settled-settled-requires-clause-contest : goal.settled-settled-requires-clause-contest
settled-settled-requires-clause-contest c =
    subst IsContest (sym c.competing-count.ensures.numbers)
    (is_contest c.args.setup.now (arbitration_of c.args.parts.now.arbitration) c.args.parts.now.boards.items c.args.board
    c.boards-boards.ensures.sound c.requires.boards c.requires.raised)
