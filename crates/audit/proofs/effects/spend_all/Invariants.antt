use Rattle.std.proofs.Common.{◌≡◌, ◌+◌, ◌^◌, take}
use Rattle.bus_model.specs.Effects.{answered}
use Rattle.audit.specs.Parts.{SpentBelow}
use Rattle.audit.proofs.effects.spend_all.Given as goal

-- the draws that were spent so far, each by one
abbrev pub invariant-loop-answer : goal.invariant-loop-answer
invariant-loop-answer l = record {
  spent : l.boards ≡ answered l.initial.boards (take l.answer-index l.answers);
  below : SpentBelow (2 ^ 62 + 1 + l.answer-index) l.boards;
}
