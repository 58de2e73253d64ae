use Rattle.std.proofs.Common.{◌∙◌, ap, sym, arith}
use Rattle.bus_signals.specs.Accesses.{line_of}
use Rattle.backplane.proofs.Counted.{fills-low, spent-low, spent-put}
use Rattle.backplane.proofs.Showing.{words-written, shown-local, shown-local-granted}
use Rattle.backplane.proofs.parts.Parts.settle.Goals as goal

pub put_copy-requires-clause-fills : goal.put_copy-requires-clause-fills
put_copy-requires-clause-fills c = fills-low c.args.self.now.rack.counts c.args.board c.requires.counts.counts

pub spend-requires-clause-draws : goal.spend-requires-clause-draws
spend-requires-clause-draws c =
    let low = spent-low c.args.self.now.rack.counts c.args.board c.requires.counts.counts in
    let same = spent-put c.args.self.now.rack c.put_copy.new.self c.args.board c.line-line.result c.args.state
    c.written-words.result c.put_copy.ensures in
    omega (arith, low, same)

pub returns-then-is_granted : goal.returns-then-is_granted
returns-then-is_granted c = λ setup x s.
    let line = c.line-line.ensures ∙ ap line_of c.addr.ensures in
    shown-local-granted setup x c.args.self.now c.put_copy.new.self c.spend.new.self c.lower.new.self
    c.complete.new.places c.args.board c.line-line.result c.args.state c.written-words.result c.args.done.now
    c.requires.board.low
    (record {
      puts = c.put_copy.ensures;
      spends = c.spend.ensures;
      lowers = c.lower.ensures;
      completes = c.complete.ensures;
    })
    line (words-written c.args.self.now c.args.board c.line-line.result c.copy_words.result c.written-words.result
    c.args.done.now line c.copy_words.ensures c.written-words.ensures)
    (sym c.is_granted.ensures ∙ c.if-is_granted.true) s

pub returns-else-is_granted : goal.returns-else-is_granted
returns-else-is_granted c = λ setup x s.
    let line = c.line-line.ensures ∙ ap line_of c.addr.ensures in
    shown-local setup x c.args.self.now c.put_copy.new.self c.spend.new.self c.lower.new.self c.complete.new.places
    c.args.board c.line-line.result c.args.state c.written-words.result c.args.done.now c.requires.board.low
    (record {
      puts = c.put_copy.ensures;
      spends = c.spend.ensures;
      lowers = c.lower.ensures;
      completes = c.complete.ensures;
    })
    line (words-written c.args.self.now c.args.board c.line-line.result c.copy_words.result c.written-words.result
    c.args.done.now line c.copy_words.ensures c.written-words.ensures)
    (sym c.is_granted.ensures ∙ c.if-is_granted.false) s
