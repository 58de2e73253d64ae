use Rattle.std.proofs.Common.{arith, ◌*◌}
use Rattle.bus_model.specs.Setup.{access_count}
use Rattle.player.proofs.Playing.{whole}
use Rattle.player.proofs.play.Goals as goal

pub returns-clause-played : goal.returns-clause-played
returns-clause-played c =
    let mid = c.take_turns.new.machine in
    whole c.args.machine.now mid c.finish.new.machine c.args.schedule.now c.requires.opening c.take_turns.ensures
    (c.finish.ensures.machine (8 * access_count mid.setup) (omega arith))
