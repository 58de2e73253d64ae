use Rattle.setup_text.proofs.Schedules.{is_spelled, is_read, are_places, is_first}
use Rattle.setup_text.proofs.schedule.read_schedule.Goals as goal

pub returns-clause-spelled : goal.returns-clause-spelled
returns-clause-spelled c =
    is_spelled c.args.boards c.requires.low c.requires.high c.args.bytes.now (λ v. v.items) c.schedule.result
    c.schedule.ensures

pub returns-clause-only : goal.returns-clause-only
returns-clause-only c =
    is_read c.args.boards c.requires.low c.requires.high c.args.bytes.now (λ v. v.items) c.schedule.result
    c.schedule.ensures

pub returns-clause-places : goal.returns-clause-places
returns-clause-places c =
    are_places c.args.boards c.requires.low c.requires.high c.args.bytes.now (λ v. v.items) c.schedule.result
    c.schedule.ensures

pub returns-clause-first : goal.returns-clause-first
returns-clause-first c =
    is_first c.args.boards c.requires.low c.requires.high c.args.bytes.now (λ v. v.items) c.schedule.result
    c.schedule.ensures
