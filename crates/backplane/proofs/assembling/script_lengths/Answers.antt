use Rattle.std.proofs.Common.{◌<◌, ap, length, arith, List}
use Rattle.bus_model.specs.Setup.{BoardSpec}
use Rattle.backplane.proofs.Opening.{lengths-more}
use Rattle.backplane.proofs.assembling.script_lengths.Goals as goal

pub loop-place-preserved : goal.loop-place-preserved
loop-place-preserved c =
    let setup = c.args.setup.now in
    let boards = ap (λ (xs : List BoardSpec). length xs) c.boards.ensures.boards in
    let scripts = c.boards.ensures.sound.scripts in
    let l = c.loop-place-test.true in
    let within : c.loop-place.place < length setup.scripts = omega (arith, boards, scripts, l) in
    lengths-more setup c.loop-place.lengths.items c.push.new.self.items c.loop-place.place c.script-length.result.now
    within c.loop-place.invariant c.script-length.ensures.script c.in-Ok.ensures.items
