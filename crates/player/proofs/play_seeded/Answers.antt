use Rattle.std.proofs.Common.{ap, arith, length, ℕ, ◌*◌, ◌∙◌}
use Rattle.bus_model.specs.Setup.{access_count}
use Rattle.backplane.specs.Moves.{after_turns}
use Rattle.generator.specs.Schedule.{seeded_turns}
use Rattle.player.proofs.Playing.{whole}
use Rattle.player.proofs.play_seeded.Goals as goal

pub returns-clause-played : goal.returns-clause-played
returns-clause-played c =
    let opened = c.args.machine.now in
    let mid = c.take_seeded.new.machine in
    whole opened mid c.finish.new.machine (seeded_turns c.args.seed (length opened.setup.boards) c.args.accesses)
    c.requires.opening
    (c.take_seeded.ensures
    ∙ ap (after_turns opened)
    (c.new-turns.ensures.turns
    ∙ ap (λ (n : ℕ). seeded_turns c.args.seed n c.args.accesses) c.boards.ensures.boards))
    (c.finish.ensures.machine (8 * access_count mid.setup) (omega arith))
