use Rattle.std.proofs.Common.{◌∙◌, ap, sym}
use Rattle.bus_signals.specs.Accesses.{line_of}
use Rattle.backplane.proofs.Planning.{victim-shown}
use Rattle.backplane.proofs.parts.Parts.victim_for.Goals as goal

pub returns-in-Some : goal.returns-in-Some
returns-in-Some c = λ setup events x sound s.
    victim-shown setup events x c.args.self.now c.args.board c.line.result c.in-Some.line c.args.access.now
    c.args.outcome c.state_of.result sound s
    (sym c.leaves_no_copy.ensures ∙ c.if-leaves_no_copy.false) (c.line.ensures ∙ ap line_of c.addr.ensures)
    (sym c.in-Some.is ∙ c.victim.ensures) c.state_of.ensures.state
