use Rattle.std.proofs.Common.{◌+◌, ◌∙◌, ap, arith, length, map, add-one}
use Rattle.audit.specs.Answering.{answer_from}
use Rattle.audit.specs.Parts.{shown}
use Rattle.audit.proofs.Asking.{answers-more, holders-all, fewer-more}
use Rattle.audit.proofs.turning.answers_to.Goals as goal

pub loop-place-preserved : goal.loop-place-preserved
loop-place-preserved c =
    let i = c.loop-place.invariant in
    let e = c.ask.ensures in
    let b = ap length c.boards.ensures.boards in
    let t = c.loop-place-test.true in
    record {
      answers =
          answers-more c.args.setup.now (shown c.args.parts.now) c.args.master c.args.line c.loop-place.place
          (c.loop-place.place + 1) c.args.event c.loop-place.answers c.ask.new.answers (omega arith)
          (add-one c.loop-place.place) i.answers e.answers;
      few = let o = e.one in let f = i.few in omega arith;
      fewer =
          fewer-more c.loop-place.place c.args.master (length c.loop-place.answers) (length c.ask.new.answers) i.fewer
          i.few e.one e.none;
      below = rw add-one e.below;
    }

pub returns : goal.returns
returns c =
    let i = c.loop-place.invariant in
    let b = ap length c.boards.ensures.boards in
    let t = c.loop-place-test.false in
    i.answers
    ∙ ap (map (answer_from c.args.setup.now (shown c.args.parts.now) c.args.line c.args.event))
    (holders-all c.args.setup.now (shown c.args.parts.now) c.args.master c.args.line c.loop-place.place (omega arith))
