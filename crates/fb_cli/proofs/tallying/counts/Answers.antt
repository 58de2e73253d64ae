use Rattle.std.proofs.Common.{◌∙◌}
use Rattle.fb_cli.proofs.Counted.{counted_output}
use Rattle.fb_cli.proofs.tallying.counts.Goals as goal

pub returns : goal.returns
returns c =
    counted_output c.args.seed c.in_ok-setup.setup c.in_ok-machine.machine c.play_seeded.new.machine
    c.accesses-accesses.result c.journal.result.now
    c.reserve.new.self.bytes c.write_tally.new.text.bytes
    c.in_ok-setup.ensures.setup c.in_ok-machine.ensures c.accesses-accesses.ensures.accesses
    c.play_seeded.ensures.played c.journal.ensures.journal
    (c.reserve.ensures.bytes ∙ c.new-text.ensures) c.write_tally.ensures.tally
