use Rattle.std.proofs.Common.{ap, arith, length, sym, take, ◌+◌, ◌∙◌, ◌≡◌}
use Rattle.bus_model.specs.Setup.{board_places}
use Rattle.bus_model.specs.Turns.{events_of_turns}
use Rattle.backplane.specs.Machine.{Machine, configuration}
use Rattle.backplane.specs.Moves.{after_turns, events_told, moved, turn_of}
use Rattle.backplane.proofs.Turning.{done_by, next_count, next_in_round, next_turn, round_goes_on, told_count, told_few, whole_round}
use Rattle.backplane.proofs.machine.Machine.round.Goals as goal

pub loop-place-preserved : goal.loop-place-preserved
loop-place-preserved c =
    let m = c.args.self.now in
    let place = c.loop-place.place in
    let i = c.loop-place.invariant in
    let boards = c.boards-boards.ensures.boards in
    let test = c.loop-place-test.true in
    let before = take place (board_places m.setup) in
    let next = next_in_round m.setup place (omega arith) in
    let turn = ap (λ (x : Machine). turn_of x (place + 1)) i.turned in
    let events : c.events_of-did.result ≡ done_by (turn_of (after_turns m before) (place + 1)) =
    c.events_of-did.ensures ∙ ap events_told c.advance.ensures.told
    ∙ told_count (turn_of c.loop-place.self (place + 1)) ∙ ap done_by turn in
    record {
      turned =
          c.advance.ensures.machine ∙ ap (λ (x : Machine). moved x (turn_of x (place + 1))) i.turned
          ∙ sym (next_turn m before (place + 1)) ∙ ap (after_turns m) (sym next);
      counted =
          (λ j. i.counted j + events j) ∙ sym (next_count m before (place + 1))
          ∙ ap (λ places. length (events_of_turns m.setup (configuration m) places)) (sym next);
      few = let few = i.few in let one = told_few c.advance.result in let e = c.events_of-did.ensures in omega arith;
    }

pub returns-clause-turns : goal.returns-clause-turns
returns-clause-turns c =
    let m = c.args.self.now in
    let boards = c.boards-boards.ensures.boards in
    let test = c.loop-place-test.false in
    c.loop-place.invariant.turned ∙ ap (after_turns m) (whole_round m.setup c.loop-place.place (omega arith))

pub returns-clause-count : goal.returns-clause-count
returns-clause-count c =
    let m = c.args.self.now in
    let boards = c.boards-boards.ensures.boards in
    let test = c.loop-place-test.false in
    c.loop-place.invariant.counted
    ∙ ap (λ places. length (events_of_turns m.setup (configuration m) places))
    (whole_round m.setup c.loop-place.place (omega arith))

pub returns-clause-goes_on : goal.returns-clause-goes_on
returns-clause-goes_on c = λ unfinished.
    let m = c.args.self.now in
    let some = round_goes_on m.setup m.journal (configuration m) c.journal-journal.ensures.setup
    c.journal-journal.ensures.sound unfinished in
    let count = returns-clause-count c in
    omega arith
