use Rattle.std.proofs.Common.{ℕ, sym, subst}
use Rattle.line_pool.specs.Pools.{Pool, IsOut}
use Rattle.line_pool.proofs.Moves.{shown, out_some, given, given_count}
use Rattle.line_pool.proofs.pool.LinePool.give.Goals as goal

pub move_frame-requires-clause-to : goal.move_frame-requires-clause-to
move_frame-requires-clause-to c =
    let out : IsOut (shown c.self.inside.place.items c.self.inside.words.items c.self.inside.free) c.frame.inside.0 =
    subst (λ (f : ℕ). IsOut (shown c.self.inside.place.items c.self.inside.words.items c.self.inside.free) f)
    (sym c.frame.view_is) (subst (λ (p : Pool). IsOut p c.args.frame) (sym c.self.view_is) c.requires) in
    out_some c.self.inside.order.items c.self.inside.place.items c.self.inside.words.items c.self.inside.free
    c.self.invariant c.frame.inside.0 out

pub returns-clause-given : goal.returns-clause-given
returns-clause-given c =
    let out : IsOut (shown c.self.inside.place.items c.self.inside.words.items c.self.inside.free) c.frame.inside.0 =
    subst (λ (f : ℕ). IsOut (shown c.self.inside.place.items c.self.inside.words.items c.self.inside.free) f)
    (sym c.frame.view_is) (subst (λ (p : Pool). IsOut p c.args.frame) (sym c.self.view_is) c.requires) in
    rw (← c.self.view_is, ← c.frame.view_is)
    (given c.self.inside.order.items c.self.inside.place.items c.self.inside.words.items c.self.inside.free
    c.self.invariant c.frame.inside.0 c.move_frame.new.place.items out c.move_frame.ensures.places)

pub returns-clause-count : goal.returns-clause-count
returns-clause-count c =
    let out : IsOut (shown c.self.inside.place.items c.self.inside.words.items c.self.inside.free) c.frame.inside.0 =
    subst (λ (f : ℕ). IsOut (shown c.self.inside.place.items c.self.inside.words.items c.self.inside.free) f)
    (sym c.frame.view_is) (subst (λ (p : Pool). IsOut p c.args.frame) (sym c.self.view_is) c.requires) in
    rw (← c.self.view_is) (given_count c.self.inside.order.items c.self.inside.place.items c.self.inside.words.items
    c.self.inside.free c.self.invariant c.frame.inside.0 c.move_frame.new.place.items out
    c.move_frame.ensures.places)
