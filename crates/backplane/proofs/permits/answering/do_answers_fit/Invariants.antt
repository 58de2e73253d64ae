use Rattle.std.proofs.Common.{drop, length, ◌≡◌, ◌≤◌}
use Rattle.board.specs.Rack.{setup_of}
use Rattle.bus_model.specs.Setup.{board_places}
use Rattle.backplane.specs.Permits.{do_fit_among}
use Rattle.backplane.proofs.permits.answering.do_answers_fit.Given as goal

abbrev pub invariant-loop-place : goal.invariant-loop-place
invariant-loop-place l = record {
  within : l.count ≤ length l.connected.answers;
  same :
      do_fit_among l.rack l.connected (board_places (setup_of l.rack)) l.connected.answers
      ≡ do_fit_among l.rack l.connected (drop l.place (board_places (setup_of l.rack)))
      (drop l.count l.connected.answers);
}
