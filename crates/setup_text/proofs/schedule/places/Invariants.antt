use Rattle.std.proofs.Common.{◌≡◌, length}
use Rattle.table_text.specs.Reading.{StaysOnLine}
use Rattle.setup_text.specs.Reading.{places_on}
use Rattle.setup_text.proofs.schedule.places.Given as goal

abbrev pub invariant-loop-word : goal.invariant-loop-word
invariant-loop-word l = record {
  rest : places_on l.boards l.turns.items l.scan.words ≡ places_on l.boards l.initial.turns.items l.initial.scan.words;
  stays : StaysOnLine l.initial.scan l.scan;
}

abbrev pub decreases-loop-word : goal.decreases-loop-word
decreases-loop-word l = length l.scan.words
