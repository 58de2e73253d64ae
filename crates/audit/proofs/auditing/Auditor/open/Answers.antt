use Rattle.std.proofs.Common.{[], None, ◌∙◌, subst, sym}
use Rattle.bus_model.specs.Setup.{WellFormed}
use Rattle.bus_model.specs.Configuration.{opening}
use Rattle.audit.specs.Auditor.{StandsFor}
use Rattle.audit.specs.Parts.{shown}
use Rattle.audit.proofs.Standing.{stands_opening}
use Rattle.audit.proofs.auditing.Auditor.open.Goals as goal

pub returns-clause-stands : goal.returns-clause-stands
returns-clause-stands c =
    let setup = c.args.setup in
    let words = c.new.ensures ∙ c.in-Ok.ensures.items_if_clones_equal (λ x y same. same) ∙ c.memory.ensures.memory in
    subst (λ events. StandsFor setup events (shown c.in_ok-parts.parts) c.new.result None)
    (sym c.new-journal.ensures.items)
    (subst (λ led. StandsFor setup [] led c.new.result None) (sym c.in_ok-parts.ensures)
    (subst (λ flat. StandsFor setup [] (opening setup) flat None) (sym words)
    (stands_opening setup (subst WellFormed c.setup.view_is c.setup.invariant))))
