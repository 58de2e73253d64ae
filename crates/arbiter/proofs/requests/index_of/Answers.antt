use Rattle.std.proofs.Common.{◌∙◌, arith, sym}
use Rattle.arbiter.proofs.Requesting.{winner_later}
use Rattle.arbiter.proofs.requests.index_of.Goals as goal

pub loop-i-preserved : goal.loop-i-preserved
loop-i-preserved c =
    winner_later c.args.numbers.now c.args.marks.now c.loop-i.i c.args.number c.loop-i-test.true
    (omega (arith, c.loop-i-test.true, c.requires, c.told-marks)) c.loop-i.invariant
    (sym c.wins.ensures ∙ c.if-wins.false)
