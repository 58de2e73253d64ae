use Rattle.std.proofs.Common.{◌∙◌, ◌<◌, ap, subst, sym, ℕ, List}
use Rattle.std.specs.Prelude.{vec_capacity}
use Rattle.bus_model.specs.Setup.{line_count}
use Rattle.bus_model.specs.Configuration.{memory_line}
use Rattle.backplane.specs.Machine.{Machine, configuration, configuration_after}
use Rattle.backplane.proofs.Filling.{line-there}
use Rattle.backplane.proofs.Stepping.{stands-sound}
use Rattle.backplane.proofs.machine.Machine.memory_line.Goals as goal

pub get_memory-requires : goal.get_memory-requires
get_memory-requires c =
    let m = c.self.inside in
    let within : c.args.line < line_count m.setup =
    subst (λ (x : Machine). c.args.line < line_count x.setup) (sym c.self.view_is) c.requires in
    let sound = stands-sound m.setup m.journal.items (vec_capacity m.journal) m.parts m.histories c.self.invariant in
    line-there m.setup m.journal.items (configuration_after m.setup m.journal.items) m.parts c.args.line sound
    c.self.invariant.parts within

pub returns : goal.returns
returns c =
    c.get_memory.ensures ∙ ap (λ (ls : List (List ℕ)). memory_line ls c.args.line) c.self.invariant.parts.memory
    ∙ ap (λ (x : Machine). memory_line (configuration x).memory c.args.line) c.self.view_is
