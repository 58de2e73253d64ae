use Rattle.std.proofs.Common.{◌≡◌, ℕ, zero, suc, ◌-◌, ◌<◌, refl, sym, subst, ◌∙◌, arith}
use Rattle.std.specs.Prelude.{slice_index}
use Rattle.line_pool.specs.Pools.{AllOut}
use Rattle.line_pool.proofs.Moves.{last_free, taken, taken_count, not_all_out, all_out, same_element}
use Rattle.line_pool.proofs.pool.LinePool.take.Goals as goal

pos : (n : ℕ) → (n ≡ 0 → ⊥) → 0 < n
pos zero h = absurd (h refl)
pos (suc n) h = omega arith

pub returns-then-self-eq0-clause-none : goal.returns-then-self-eq0-clause-none
returns-then-self-eq0-clause-none c = (
  λ e.
      subst AllOut c.self.view_is
      (all_out c.self.inside.order.items c.self.inside.place.items c.self.inside.words.items
      c.self.inside.free c.self.invariant c.if-self-eq0.true),
  λ all. refl,
)

pub returns-clause-none : goal.returns-clause-none
returns-clause-none c =
    let some : 0 < c.self.inside.free = pos c.self.inside.free c.if-self-eq0.false in (
      λ e. cc,
      λ all.
          absurd (not_all_out c.self.inside.order.items c.self.inside.place.items c.self.inside.words.items
          c.self.inside.free c.self.invariant some (subst AllOut (sym c.self.view_is) all)),
    )

pub returns-clause-free : goal.returns-clause-free
returns-clause-free c =
    let within = c.self.invariant.within in
    let some : 0 < c.self.inside.free = pos c.self.inside.free c.if-self-eq0.false in
    let frame : c.index.result.now ≡ slice_index c.self.inside.order.items (c.self.inside.free - 1) =
    c.index.ensures
    ∙ same_element c.self.inside.order.items (c.self.inside.free - 1) c.index.result.now
    (omega (arith, some, within)) in
    rw (← c.self.view_is, frame)
    (last_free c.self.inside.order.items c.self.inside.place.items c.self.inside.words.items c.self.inside.free
    c.self.invariant some)

pub returns-clause-taken : goal.returns-clause-taken
returns-clause-taken c =
    let within = c.self.invariant.within in
    let some : 0 < c.self.inside.free = pos c.self.inside.free c.if-self-eq0.false in
    let frame : c.index.result.now ≡ slice_index c.self.inside.order.items (c.self.inside.free - 1) =
    c.index.ensures
    ∙ same_element c.self.inside.order.items (c.self.inside.free - 1) c.index.result.now
    (omega (arith, some, within)) in
    rw (← c.self.view_is, frame)
    (taken c.self.inside.order.items c.self.inside.place.items c.self.inside.words.items c.self.inside.free
    c.self.invariant some)

pub returns-clause-count : goal.returns-clause-count
returns-clause-count c =
    let some : 0 < c.self.inside.free = pos c.self.inside.free c.if-self-eq0.false in
    rw (← c.self.view_is) (taken_count c.self.inside.order.items c.self.inside.place.items c.self.inside.words.items
    c.self.inside.free c.self.invariant some)
