use Rattle.std.proofs.Common.{◌≡◌, ◌-◌, ◌≤◌, ℕ, ap, ◌∙◌, length, arith}
use Rattle.class_relation.specs.Rows.{rows}
use Rattle.backplane.specs.Rooms.{rooms}
use Rattle.backplane.specs.Histories.{Histories, added}
use Rattle.backplane.proofs.Listing.{made, push-added}
use Rattle.backplane.proofs.histories.Histories.push.Goals as goal

pub returns : goal.returns
returns c =
    let lists = c.self.inside.lists.items in
    let before : Histories = made (rows lists) (rooms lists) in
    let place : c.board.inside.0 - 1 ≡ c.args.board - 1 = ap (λ (n : ℕ). n - 1) c.board.view_is in
    let long : length (rows lists) ≡ length c.args.self.now.entries =
    ap (λ (h : Histories). length h.entries) c.self.view_is in
    let high : c.args.board ≤ length before.entries = let h = c.requires.high in omega (arith, long, h) in
    push-added before (rows c.push_at.new.lists.items) (rooms c.push_at.new.lists.items) c.args.board
    (c.board.inside.0 - 1) c.args.entry c.requires.low place high c.push_at.ensures.items c.push_at.ensures.rooms
    ∙ ap (λ (h : Histories). added h c.args.board c.args.entry) c.self.view_is
