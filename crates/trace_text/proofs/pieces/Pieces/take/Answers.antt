use Rattle.std.proofs.Common.{sym, ◌∙◌}
use Rattle.trace_text.proofs.Splits.{taken_first, taken_last}
use Rattle.trace_text.proofs.pieces.Pieces.take.Goals as goal

pub returns-in-Some : goal.returns-in-Some
returns-in-Some c =
    taken_first c.self.inside.ended c.self.inside.byte c.self.inside.rest.now c.cut.result.0.now c.cut.result.1.now
    c.in-Some.end c.args.self.now c.if-self.false c.self.view_is (sym c.in-Some.is ∙ c.place_of.ensures)
    c.cut.ensures.front c.cut.ensures.back

pub returns-in-None : goal.returns-in-None
returns-in-None c =
    taken_last c.self.inside.ended c.self.inside.byte c.self.inside.rest.now c.args.self.now c.if-self.false
    c.self.view_is (sym c.in-None.is ∙ c.place_of.ensures)
