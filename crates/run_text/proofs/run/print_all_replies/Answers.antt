use Rattle.std.proofs.lemmas.Result.{err_from_is_err_and}
use Rattle.std.proofs.Common.{suc, drop, arith}
use Rattle.std.specs.List.{flat_map}
use Rattle.bus_model.specs.Setup.{board_places}
use Rattle.bus_model.specs.Entries.{entries}
use Rattle.run_text.specs.RunText.{board_replies}
use Rattle.run_text.proofs.Behind.{failed-behind, whole-behind, done-behind}
use Rattle.run_text.proofs.Numbers.{places-at, places-more, places-all}
use Rattle.run_text.proofs.run.print_all_replies.Goals as goal

pub returns-in_err-print_board_replies : goal.returns-in_err-print_board_replies
returns-in_err-print_board_replies g c =
    let p = err_from_is_err_and c.from_residual.result c.from_residual.ensures.1 in
    let machine = c.args.machine.now in
    let at = c.loop-place.place in
    let boards = c.boards-place-end.ensures.boards in
    let test = c.loop-place-test.true in
    record {
      paged = rw (p.1, p.2) (
          failed-behind
          (flat_map (board_replies (entries c.args.machine.now.journal)) (drop (suc at) (board_places machine.setup)))
          (flat_map (board_replies (entries c.args.machine.now.journal)) (board_places machine.setup))
          c.in_err-print_board_replies.field-0.0
          (places-at (board_replies (entries c.args.machine.now.journal)) machine.setup.boards at
          (omega (arith, boards, test))) c.loop-place.invariant.paged c.in_err-print_board_replies.ensures.paged);
    }

pub loop-place-preserved : goal.loop-place-preserved
loop-place-preserved g c =
    let machine = c.args.machine.now in
    let boards = c.boards-place-end.ensures.boards in
    let test = c.loop-place-test.true in
    record {
      paged =
          whole-behind c.in_ok-print_board_replies.field-0
          (places-more (board_replies (entries c.args.machine.now.journal)) machine.setup.boards c.loop-place.place
          (omega (arith, boards, test))) c.loop-place.invariant.paged c.in_ok-print_board_replies.ensures.paged;
    }

pub returns : goal.returns
returns g c =
    let machine = c.args.machine.now in
    let boards = c.boards-place-end.ensures.boards in
    let test = c.loop-place-test.false in
    record {
      paged =
          done-behind (places-all (board_replies (entries c.args.machine.now.journal)) machine.setup.boards
          c.loop-place.place (omega (arith, boards, test))) c.loop-place.invariant.paged;
    }
