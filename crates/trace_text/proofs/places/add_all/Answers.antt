use Rattle.std.proofs.Common.{sym, ap, ◌∙◌}
use Rattle.trace_text.specs.Reading.{more_places}
use Rattle.trace_text.proofs.Longer.{places_end, places_none, places_more}
use Rattle.trace_text.proofs.places.add_all.Goals as goal

pub returns-in_default-add : goal.returns-in_default-add
returns-in_default-add c =
    sym c.loop-part.invariant.rest
    ∙ (ap (more_places c.loop-part.places) c.in-Some.ensures
    ∙ places_none c.loop-part.places c.in-Some.part.now c.take.new.self c.in_default-add.ensures.added)

pub loop-part-preserved : goal.loop-part-preserved
loop-part-preserved c = record {
  last = c.in-Some-add.ensures.last;
  rest =
      sym (places_more c.loop-part.places c.add.new.places c.in-Some.part.now c.take.new.self
      c.in-Some-add.ensures.added)
      ∙ (ap (more_places c.loop-part.places) (sym c.in-Some.ensures) ∙ c.loop-part.invariant.rest);
}

pub returns : goal.returns
returns c =
    sym c.loop-part.invariant.rest
    ∙ (ap (more_places c.loop-part.places) c.in_default.ensures ∙ places_end c.loop-part.places)
