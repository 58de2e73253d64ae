use Rattle.race_run.proofs.Turning.{grows, is_turn, keeps_setup}
use Rattle.race_run.proofs.racing.RacingTurned.step.Goals as goal

pub returns-clause-base : goal.returns-clause-base
returns-clause-base c = keeps_setup c.args.self.now.machine c.args.who c.advance.new.self c.advance.ensures.machine

pub returns-clause-entries : goal.returns-clause-entries
returns-clause-entries c = grows c.args.self.now.machine c.args.who c.advance.new.self c.advance.ensures.machine

pub returns-clause-answer : goal.returns-clause-answer
returns-clause-answer c =
    let before = c.journal-journal.ensures in
    is_turn c.args.self.now.machine c.args.who c.advance.new.self c.advance.result before.setup before.accepted
    before.sound c.advance.ensures.run c.advance.ensures.told c.advance.ensures.machine
