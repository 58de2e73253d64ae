use Rattle.std.proofs.Common.{◌≡◌, ◌∙◌, ◌+◌, ◌*◌, suc, ap, arith, length, sym}
use Rattle.bus_model.specs.Settling.{lines_after}
use Rattle.arbiter.proofs.Settles.{Found, first_is, next_is, differ_more, few_rounds, found_settles, found_rounds, found_lines, found_highest}
use Rattle.arbiter.proofs.contest.settle.Goals as goal

pub loop-lines-init : goal.loop-lines-init
loop-lines-init g c = (
  c.whole-lines.ensures ∙ first_is c.args.numbers.now,
  omega arith,
  λ k less. absurd (omega (arith, less)),
  omega arith,
)

pub returns-then-next-lines-clause-settles : goal.returns-then-next-lines-clause-settles
returns-then-next-lines-clause-settles g c =
    let later = c.round-next.ensures.lines
    ∙ next_is c.args.numbers.now c.loop-lines.rounds c.loop-lines.lines c.loop-lines.invariant.0 in
    let found : Found c.args.numbers.now c.loop-lines.lines c.loop-lines.rounds =
    record {
      shown = c.loop-lines.invariant.0;
      within = c.loop-lines.invariant.1;
      differ = c.loop-lines.invariant.2;
      stays = sym later ∙ c.if-next-lines.true ∙ c.loop-lines.invariant.0;
    } in
    found_settles c.args.numbers.now c.requires c.loop-lines.lines c.loop-lines.rounds found

pub returns-then-next-lines-clause-lines : goal.returns-then-next-lines-clause-lines
returns-then-next-lines-clause-lines g c =
    let later = c.round-next.ensures.lines
    ∙ next_is c.args.numbers.now c.loop-lines.rounds c.loop-lines.lines c.loop-lines.invariant.0 in
    let found : Found c.args.numbers.now c.loop-lines.lines c.loop-lines.rounds =
    record {
      shown = c.loop-lines.invariant.0;
      within = c.loop-lines.invariant.1;
      differ = c.loop-lines.invariant.2;
      stays = sym later ∙ c.if-next-lines.true ∙ c.loop-lines.invariant.0;
    } in
    found_lines c.args.numbers.now c.requires c.loop-lines.lines c.loop-lines.rounds found

pub returns-then-next-lines-clause-rounds : goal.returns-then-next-lines-clause-rounds
returns-then-next-lines-clause-rounds g c =
    let later = c.round-next.ensures.lines
    ∙ next_is c.args.numbers.now c.loop-lines.rounds c.loop-lines.lines c.loop-lines.invariant.0 in
    let found : Found c.args.numbers.now c.loop-lines.lines c.loop-lines.rounds =
    record {
      shown = c.loop-lines.invariant.0;
      within = c.loop-lines.invariant.1;
      differ = c.loop-lines.invariant.2;
      stays = sym later ∙ c.if-next-lines.true ∙ c.loop-lines.invariant.0;
    } in
    found_rounds c.args.numbers.now c.requires c.loop-lines.lines c.loop-lines.rounds found

pub returns-then-next-lines-clause-highest : goal.returns-then-next-lines-clause-highest
returns-then-next-lines-clause-highest g c =
    let later = c.round-next.ensures.lines
    ∙ next_is c.args.numbers.now c.loop-lines.rounds c.loop-lines.lines c.loop-lines.invariant.0 in
    let found : Found c.args.numbers.now c.loop-lines.lines c.loop-lines.rounds =
    record {
      shown = c.loop-lines.invariant.0;
      within = c.loop-lines.invariant.1;
      differ = c.loop-lines.invariant.2;
      stays = sym later ∙ c.if-next-lines.true ∙ c.loop-lines.invariant.0;
    } in
    found_highest c.args.numbers.now c.requires c.loop-lines.lines c.loop-lines.rounds found

pub loop-lines-preserved : goal.loop-lines-preserved
loop-lines-preserved g c =
    let later = c.round-next.ensures.lines
    ∙ next_is c.args.numbers.now c.loop-lines.rounds c.loop-lines.lines c.loop-lines.invariant.0 in
    let next : suc c.loop-lines.rounds ≡ c.loop-lines.rounds + 1 = omega arith in
    let changed = λ (e : lines_after c.args.numbers.now (suc c.loop-lines.rounds)
    ≡ lines_after c.args.numbers.now c.loop-lines.rounds).
    c.if-next-lines.false (later ∙ e ∙ sym c.loop-lines.invariant.0) in
    let more : (c.loop-lines.rounds + 1) * length c.args.numbers.now
    ≡ c.loop-lines.rounds * length c.args.numbers.now + length c.args.numbers.now = omega arith in (
      later ∙ ap (lines_after c.args.numbers.now) next,
      few_rounds c.args.numbers.now c.requires c.loop-lines.rounds c.loop-lines.invariant.1 changed,
      differ_more c.args.numbers.now c.loop-lines.rounds c.loop-lines.invariant.2 changed,
      omega (arith, c.round-next.ensures.looks, c.loop-lines.invariant.3, more),
    )
