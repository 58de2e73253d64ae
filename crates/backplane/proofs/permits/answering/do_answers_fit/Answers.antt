use Rattle.std.proofs.Common.{arith, length, sym, ◌∙◌, drop, ap, ◌+◌, ◌==◌}
use Rattle.board.specs.Rack.{setup_of}
use Rattle.bus_model.specs.Setup.{board_places}
use Rattle.backplane.proofs.Answering.{last_board, next_board}
use Rattle.backplane.proofs.permits.answering.do_answers_fit.Goals as goal

pub returns-in_default : goal.returns-in_default
returns-in_default c =
    let t = c.args.connected.now in
    let rack = c.args.rack.now in
    let place = c.loop-place.place in
    let boards = c.boards-place-end.ensures.boards in
    let test = c.loop-place-test.true in
    sym (c.loop-place.invariant.same
    ∙ next_board rack t place (place + 1) c.loop-place.count (omega arith) (omega arith)
    ∙ c.in_default.ensures.none (drop (place + 1) (board_places (setup_of rack))))

pub loop-place-preserved : goal.loop-place-preserved
loop-place-preserved c =
    let t = c.args.connected.now in
    let rack = c.args.rack.now in
    let place = c.loop-place.place in
    let boards = c.boards-place-end.ensures.boards in
    let test = c.loop-place-test.true in
    record {
      within = c.in-Some.ensures.within;
      same =
          c.loop-place.invariant.same
          ∙ next_board rack t place (place + 1) c.loop-place.count (omega arith) (omega arith)
          ∙ c.in-Some.ensures.some (drop (place + 1) (board_places (setup_of rack)));
    }

pub returns : goal.returns
returns c =
    let t = c.args.connected.now in
    let rack = c.args.rack.now in
    let place = c.loop-place.place in
    let boards = c.boards-place-end.ensures.boards in
    let test = c.loop-place-test.false in
    let answers = c.items.ensures.items in
    ap (λ items. c.loop-place.count == length items) answers
    ∙ last_board rack t place c.loop-place.count (omega arith) c.loop-place.invariant.within
    ∙ sym c.loop-place.invariant.same
