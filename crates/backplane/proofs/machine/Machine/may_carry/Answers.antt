use Rattle.std.proofs.Common.{ap, sym, ◌∙◌}
use Rattle.backplane.specs.Machine.{configuration}
use Rattle.backplane.specs.Parts.{phase_of}
use Rattle.backplane.proofs.Permitted.{carries, sound_parts}
use Rattle.backplane.proofs.machine.Machine.may_carry.Goals as goal

pub permits_data-requires : goal.permits_data-requires
permits_data-requires c =
    carries c.self.inside.setup c.self.inside.journal.items _ c.self.inside.parts _ c.args.self.now c.self.invariant
    c.self.view_is c.in-Connected.connected (ap phase_of c.in-Connected.is)

pub returns-in-Connected : goal.returns-in-Connected
returns-in-Connected c =
    let m = c.args.self.now in
    let sound = sound_parts c.self.inside.setup c.self.inside.journal.items _ c.self.inside.parts _ m c.self.invariant
    c.self.view_is in
    c.permits_data.ensures m.setup m.journal (configuration m) sound
    (sym sound.shows.phase ∙ ap phase_of c.in-Connected.is) c.next-access.ensures.access
