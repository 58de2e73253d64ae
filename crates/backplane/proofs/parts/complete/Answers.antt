use Rattle.std.proofs.Common.{◌≡◌, ◌<◌, ℕ, ◌-◌, ap, suc, add-one, arith, length}
use Rattle.backplane.proofs.Changes.{set-place}
use Rattle.backplane.proofs.Counted.{place-low}
use Rattle.backplane.proofs.parts.complete.Goals as goal

pub overflow_add-index_mut : goal.overflow_add-index_mut
overflow_add-index_mut c =
    let place : c.board.inside.0 - 1 ≡ c.args.board - 1 = ap (λ (k : ℕ). k - 1) c.board.view_is in
    let there : c.board.inside.0 - 1 < length c.args.places.now.items =
    let low = c.requires.low in let high = c.requires.high in omega (arith, low, high, place) in
    let low = place-low c.args.places.now.items (c.board.inside.0 - 1) c.index_mut.result.now there c.requires.fit
    c.index_mut.ensures.value in
    omega (arith, low)

pub returns : goal.returns
returns c =
    let place : c.board.inside.0 - 1 ≡ c.args.board - 1 = ap (λ (k : ℕ). k - 1) c.board.view_is in
    rw add-one (set-place suc c.args.places.now.items c.args.board (c.board.inside.0 - 1) c.index_mut.result.now
    c.requires.low place c.requires.high c.index_mut.ensures.value)
