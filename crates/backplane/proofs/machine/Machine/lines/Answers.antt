use Rattle.std.proofs.Common.{◌∙◌, ap}
use Rattle.std.specs.Prelude.{vec_capacity}
use Rattle.bus_model.specs.Setup.{line_count}
use Rattle.backplane.specs.Machine.{Machine, configuration_after}
use Rattle.backplane.proofs.Reading.{lines-are}
use Rattle.backplane.proofs.Stepping.{stands-sound}
use Rattle.backplane.proofs.machine.Machine.lines.Goals as goal

pub returns : goal.returns
returns c =
    let m = c.self.inside in
    let sound = stands-sound m.setup m.journal.items (vec_capacity m.journal) m.parts m.histories c.self.invariant in
    lines-are m.setup (configuration_after m.setup m.journal.items) m.parts.memory c.lines.result sound.parts.memory
    c.self.invariant.parts.memory c.lines.ensures.lines
    ∙ ap (λ (x : Machine). line_count x.setup) c.self.view_is
