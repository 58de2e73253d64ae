use Rattle.std.proofs.Common.{◌≡◌, ◌<◌, length, drop}
use Rattle.journal.specs.Boards.{state_boards}
use Rattle.trace_text.specs.Reading.{last_of, more_states}
use Rattle.trace_text.proofs.lists.add_states.Given as goal

abbrev pub invariant-loop-word : goal.invariant-loop-word
invariant-loop-word l = record {
  some : 0 < length l.states;
  last : l.last ≡ last_of (drop 1 (state_boards l.states));
  rest : more_states l.master l.states l.line ≡ more_states l.master l.initial.states l.initial.line;
}

abbrev pub decreases-loop-word : goal.decreases-loop-word
decreases-loop-word l = length l.line
