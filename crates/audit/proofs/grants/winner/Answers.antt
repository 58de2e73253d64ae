use Rattle.std.proofs.Common.{arith, ap, length, sym, unwrap_or, ◌+◌, ◌∙◌}
use Rattle.std.specs.Prelude.{◌==◌, find}
use Rattle.bus_model.specs.Arbitration.{competing, does_compete}
use Rattle.bus_model.specs.Setup.{number_of}
use Rattle.audit.specs.Parts.{arbitration_of}
use Rattle.audit.proofs.Granting.{winner-none, winner-skip, winner-stop}
use Rattle.audit.proofs.grants.winner.Goals as goal

pub returns-then-wins : goal.returns-then-wins
returns-then-wins c =
    let low = c.loop-place-test.true in
    let long = c.requires in
    let setup_long = ap length c.boards.ensures.boards in
    c.board.view_is
    ∙ sym (ap (λ o. unwrap_or o 0) (winner-stop
    (does_compete (arbitration_of c.args.parts.now.arbitration) c.args.parts.now.boards.items)
    (λ board. number_of c.args.setup.now board == c.args.number) c.args.parts.now.boards.items c.loop-place.place
    (c.loop-place.place + 1)
    (find (λ board. number_of c.args.setup.now board == c.args.number)
    (competing (arbitration_of c.args.parts.now.arbitration) c.args.parts.now.boards.items))
    (omega (arith, low, long, setup_long)) (omega arith) c.loop-place.invariant
    (sym c.wins.ensures ∙ c.if-wins.true)))

pub loop-place-preserved : goal.loop-place-preserved
loop-place-preserved c =
    let low = c.loop-place-test.true in
    let long = c.requires in
    let setup_long = ap length c.boards.ensures.boards in
    winner-skip (does_compete (arbitration_of c.args.parts.now.arbitration) c.args.parts.now.boards.items)
    (λ board. number_of c.args.setup.now board == c.args.number) c.args.parts.now.boards.items c.loop-place.place
    (c.loop-place.place + 1)
    (find (λ board. number_of c.args.setup.now board == c.args.number)
    (competing (arbitration_of c.args.parts.now.arbitration) c.args.parts.now.boards.items))
    (omega (arith, low, long, setup_long)) (omega arith) c.loop-place.invariant
    (sym c.wins.ensures ∙ c.if-wins.false)

pub returns : goal.returns
returns c =
    let high = c.loop-place-test.false in
    let long = c.requires in
    let setup_long = ap length c.boards.ensures.boards in
    sym (ap (λ o. unwrap_or o 0) (winner-none
    (does_compete (arbitration_of c.args.parts.now.arbitration) c.args.parts.now.boards.items)
    (λ board. number_of c.args.setup.now board == c.args.number) c.args.parts.now.boards.items c.loop-place.place
    (find (λ board. number_of c.args.setup.now board == c.args.number)
    (competing (arbitration_of c.args.parts.now.arbitration) c.args.parts.now.boards.items))
    (omega (arith, high, long, setup_long)) c.loop-place.invariant))
