use Rattle.std.proofs.Common.{rules, ℕ, List, ◌++◌, map, sym, ap, ◌∙◌, subst}
use Rattle.std.specs.List.{AllByRecursion}
use Rattle.moesi_state.specs.declared.State.{State}
use Rattle.trace_text.specs.Spelling.{placed_word, carried_words}
use Rattle.trace_text.specs.Ranges.{IsBoard}
use Rattle.trace_text.specs.Writing.{each_behind}
use Rattle.trace_text.proofs.Behind.{ended_written, states_boards}
use Rattle.trace_text.proofs.writing.ended.Goals as goal

pub states-requires-clause-boards : goal.states-requires-clause-boards
states-requires-clause-boards c =
    subst (λ (z : List (ℕ × State)). AllByRecursion (λ (p : ℕ × State). IsBoard p.0) z) (sym c.items.ensures.items)
    (states_boards c.args.all.now.master c.args.all.now.states c.requires.board c.requires.states)

pub returns : goal.returns
returns c = record {
  appends = record {
    bytes =
        ended_written c.args.text.now.bytes c.word.new.text.bytes c.states.new.text.bytes
        c.word-2.new.text.bytes c.carried.new.text.bytes (map placed_word c.args.all.now.states)
        (carried_words c.args.all.now.done) c.word.ensures.appends.bytes
        (c.states.ensures.appends.bytes
        ∙ ap (λ (z : List (ℕ × State)). c.word.new.text.bytes ++ each_behind 32 (map placed_word z))
        c.items.ensures.items) c.word-2.ensures.appends.bytes c.carried.ensures.appends.bytes;
    spare = search (rules, c);
    kept = search (rules, c);
  };
}
