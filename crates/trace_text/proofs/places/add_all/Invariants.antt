use Rattle.std.proofs.Common.{◌≡◌, length}
use Rattle.trace_text.specs.Reading.{last_of, more_places}
use Rattle.trace_text.proofs.places.add_all.Given as goal

abbrev pub invariant-loop-part : goal.invariant-loop-part
invariant-loop-part l = record {
  last : l.last ≡ last_of l.places;
  rest : more_places l.places l.parts ≡ more_places l.initial.places l.initial.parts;
}

abbrev pub decreases-loop-part : goal.decreases-loop-part
decreases-loop-part l = length l.parts
