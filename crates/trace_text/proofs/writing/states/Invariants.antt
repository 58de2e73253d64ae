use Rattle.std.proofs.Common.{◌≡◌, ◌≤◌, ◌+◌, ◌*◌, ℕ, ◌++◌, length, map, drop}
use Rattle.std.specs.List.{AllByRecursion}
use Rattle.moesi_state.specs.declared.State.{State}
use Rattle.trace_text.specs.Spelling.{placed_word}
use Rattle.trace_text.specs.Ranges.{IsBoard}
use Rattle.fb_text.specs.Written.{KeepsRoom}
use Rattle.trace_text.specs.Writing.{each_behind}
use Rattle.trace_text.proofs.writing.states.Given as goal

abbrev pub invariant-loop-place : goal.invariant-loop-place
invariant-loop-place l = record {
  boards : AllByRecursion (λ (p : ℕ × State). IsBoard p.0) (drop l.place-index l.states);
  bytes :
      l.text.bytes ++ each_behind 32 (map placed_word (drop l.place-index l.states))
      ≡ l.initial.text.bytes ++ each_behind 32 (map placed_word l.states);
  room : 5 * length l.states ≤ l.text.spare + 5 * l.place-index;
  spare : l.initial.text.spare ≤ l.text.spare + 5 * l.place-index;
  kept : KeepsRoom l.initial.text l.text;
}
