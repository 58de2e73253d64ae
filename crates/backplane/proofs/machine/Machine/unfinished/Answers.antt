use Rattle.std.proofs.Common.{◌<◌, ◌∙◌, ap, sym, length, arith, refl}
use Rattle.std.specs.Prelude.{vec_capacity, is_some}
use Rattle.backplane.proofs.Moving.{known-of}
use Rattle.backplane.proofs.Reading.{first-unfinished, none-unfinished, all-before, complete-is, rack-boards}
use Rattle.backplane.proofs.machine.Machine.unfinished.Goals as goal

pub returns-then-is_some-clause-lowest : goal.returns-then-is_some-clause-lowest
returns-then-is_some-clause-lowest c =
    let now = c.args.self.now in
    let boards = c.boards-place-end.ensures.boards in
    let rack = rack-boards _ now c.self.inside.parts c.self.view_is c.self.invariant.parts in
    let before = c.loop-place-test.true in
    let within : c.loop-place.place < length now.setup.boards = omega (arith, before, boards, rack) in
    first-unfinished now c.loop-place.place c.loop-place.invariant within
    (sym (ap is_some c.present.ensures) ∙ sym c.is_some.ensures ∙ c.if-is_some.true)

pub returns-clause-lowest : goal.returns-clause-lowest
returns-clause-lowest c =
    let now = c.args.self.now in
    let boards = c.boards-place-end.ensures.boards in
    let rack = rack-boards _ now c.self.inside.parts c.self.view_is c.self.invariant.parts in
    let end = c.loop-place-test.false in
    none-unfinished now c.loop-place.place c.loop-place.invariant (omega (arith, end, boards, rack))

pub returns-clause-none : goal.returns-clause-none
returns-clause-none c =
    let now = c.args.self.now in
    let m = c.self.inside in
    let boards = c.boards-place-end.ensures.boards in
    let rack = rack-boards _ now c.self.inside.parts c.self.view_is c.self.invariant.parts in
    let end = c.loop-place-test.false in
    let known = known-of m.setup m.journal.items (vec_capacity m.journal) m.parts m.histories now c.self.invariant
    c.self.view_is in
    let done = all-before now c.loop-place.place c.loop-place.invariant (omega (arith, end, boards, rack)) in
    (λ same. complete-is now known.fits known.sound done, λ complete. refl)
