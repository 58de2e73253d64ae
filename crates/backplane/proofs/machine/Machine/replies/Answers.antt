use Rattle.std.proofs.Common.{◌∙◌, ap, subst, sym, arith}
use Rattle.bus_model.specs.Entries.{entries, entries_of}
use Rattle.backplane.specs.Machine.{Machine, IsBoard}
use Rattle.backplane.proofs.Keeping.{history-is, history-there}
use Rattle.backplane.proofs.machine.Machine.replies.Goals as goal

pub of-requires-clause-high : goal.of-requires-clause-high
of-requires-clause-high c =
    let m = c.self.inside in
    let board : IsBoard _ c.args.board =
    subst (λ (x : Machine). IsBoard x c.args.board) (sym c.self.view_is) c.requires in
    let there = history-there m.setup m.journal.items m.histories c.self.invariant.histories in
    let high = board.high in
    omega (arith, there, high)

pub returns : goal.returns
returns c =
    let m = c.self.inside in
    let board : IsBoard _ c.args.board =
    subst (λ (x : Machine). IsBoard x c.args.board) (sym c.self.view_is) c.requires in
    c.of.ensures
    ∙ history-is m.setup m.journal.items m.histories c.args.board c.self.invariant.histories board.low board.high
    ∙ ap (λ (x : Machine). entries_of c.args.board (entries x.journal)) c.self.view_is
