use Rattle.std.proofs.Common.{rules, ◌<◌, length, sym, ◌∙◌, arith}
use Rattle.std.proofs.lemmas.Bool.{eqb-false}
use Rattle.trace_text.proofs.Behind.{memory_written, boards_written}
use Rattle.trace_text.proofs.writing.takers.Goals as goal

pub returns-then-takers : goal.returns-then-takers
returns-then-takers c =
    record {
      appends = record {
        bytes =
            memory_written c.args.text.now.bytes c.push.new.self.bytes c.boards.new.text.bytes
            c.args.takers.now.memory c.args.takers.now.boards c.items-places.result.now c.if-takers.true
            c.items-places.ensures.items c.push.ensures.bytes c.boards.ensures.appends.bytes;
        spare = search (rules, c);
        kept = search (rules, c);
      };
    }

pub returns-else-is_empty : goal.returns-else-is_empty
returns-else-is_empty c =
    let some : 0 < length c.items-places.result.now =
    omega (arith, eqb-false _ _ (sym c.is_empty.ensures ∙ c.if-is_empty.false)) in
    record {
      appends = record {
        bytes =
            boards_written c.args.text.now.bytes c.boards-else-is_empty.new.text.bytes c.args.takers.now.memory
            c.args.takers.now.boards c.items-places.result.now c.if-takers.false c.items-places.ensures.items some
            c.boards-else-is_empty.ensures.appends.bytes;
        spare = search (rules, c);
        kept = search (rules, c);
      };
    }
