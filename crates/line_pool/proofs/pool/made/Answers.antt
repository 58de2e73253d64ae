use Rattle.std.proofs.Common.{◌≡◌, false, replicate, refl}
use Rattle.std.specs.List.{each_same}
use Rattle.line_pool.specs.Pools.{no_words}
use Rattle.line_pool.specs.Kept.{out_of}
use Rattle.line_pool.proofs.Orders.{numbered_free}
use Rattle.line_pool.proofs.pool.made.Goals as goal

pub returns : goal.returns
returns c =
    let out : out_of c.in_ok-place.place.items c.args.frames ≡ replicate c.args.frames false =
    numbered_free c.in_ok-place.place.items c.args.frames c.in_ok-place.ensures.long c.in_ok-place.ensures.numbered
    in
    let words : c.in_ok-words.words.items ≡ replicate c.args.frames no_words =
    c.in_ok-words.ensures.items_if_clones_equal (λ y same. each_same no_words y same.whole) in
    rw (out, words) refl
