use Rattle.std.proofs.Common.{◌<◌, List, length, sym, ◌∙◌, ap, subst, arith}
use Rattle.class_relation.specs.Tables.{Table}
use Rattle.setup_text.specs.Drafts.{Named, found_name, IsKnown}
use Rattle.setup_text.proofs.Naming.{found_known}
use Rattle.setup_text.proofs.tables.Tables.find.Goals as goal

pub overflow_cast-result : goal.overflow_cast-result
overflow_cast-result c =
    let found = sym (ap (λ (n : List Named). found_name n c.args.name.now) (sym c.self.invariant.1)) in
    let known = found_known c.args.name.now c.self.inside.tables.items
    (c.in_ok-place.place, c.in_ok-place.stays_invalid) (sym (c.in_ok-place.ensures ∙ found)) in
    let low : c.in_ok-place.place < length c.self.inside.tables.items = known.0 in
    let few = c.self.invariant.0.few in
    omega arith

pub returns-clause-known : goal.returns-clause-known
returns-clause-known c =
    let found = sym (ap (λ (n : List Named). found_name n c.args.name.now) (sym c.self.invariant.1)) in
    let known = found_known c.args.name.now c.self.inside.tables.items
    (c.in_ok-place.place, c.in_ok-place.stays_invalid) (sym (c.in_ok-place.ensures ∙ found)) in
    let P : List Table → Type 0 = λ ts. IsKnown ts (c.in_ok-place.place, c.in_ok-place.stays_invalid) in
    subst P c.self.view_is known
