use Rattle.std.proofs.Common.{◌≡◌, ◌-◌, ℕ, ap, ◌∙◌, length, arith}
use Rattle.class_relation.specs.Rows.{rows}
use Rattle.backplane.specs.Histories.{Histories, history_of}
use Rattle.backplane.proofs.Listing.{read-row}
use Rattle.backplane.proofs.histories.Histories.of.Goals as goal

pub returns : goal.returns
returns c =
    let lists = c.self.inside.lists.items in
    let place : c.board.inside.0 - 1 ≡ c.args.board - 1 = ap (λ (n : ℕ). n - 1) c.board.view_is in
    let long : length (rows lists) ≡ length c.args.self.now.entries =
    ap (λ (h : Histories). length h.entries) c.self.view_is in
    let high = c.requires.high in
    let low = c.requires.low in
    c.deref.ensures.value
    ∙ read-row lists c.args.board (c.board.inside.0 - 1) c.index.result.now low place (omega (arith, long, high))
    c.index.ensures
    ∙ ap (λ (h : Histories). history_of h c.args.board) c.self.view_is
