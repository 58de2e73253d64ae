use Rattle.std.proofs.Common.{◌∙◌, arith, sym}
use Rattle.arbiter.proofs.Driven.{driven_stays, driven_clears, driven_whole}
use Rattle.arbiter.proofs.contest.driven.Goals as goal

pub loop-bit-preserved : goal.loop-bit-preserved
loop-bit-preserved c =
    let step = driven_stays c.loop-bit.bit c.args.lines c.args.number c.loop-bit-test.true
    (sym c.disagrees.ensures ∙ c.if-disagrees.false) in
    (omega (arith, c.loop-bit.invariant.0), c.loop-bit.invariant.1 ∙ step)

pub returns-then-disagrees : goal.returns-then-disagrees
returns-then-disagrees c =
    let step = driven_clears c.loop-bit.bit c.args.lines c.args.number c.loop-bit-test.true
    (sym c.disagrees.ensures ∙ c.if-disagrees.true) in
    c.cleared_below.ensures ∙ sym (c.loop-bit.invariant.1 ∙ step)

pub returns : goal.returns
returns c = sym (c.loop-bit.invariant.1 ∙ driven_whole c.loop-bit.bit c.args.lines c.args.number c.loop-bit-test.false)
