use Rattle.std.specs.Prelude.{vec_capacity}
use Rattle.coherence.proofs.Fairness.{grants_are_fair}
use Rattle.backplane.specs.Machine.{configuration}
use Rattle.backplane.proofs.Moving.{known-of, legal-of, bounded-of}
use Rattle.backplane.proofs.machine.Machine.journal.Goals as goal

pub returns-clause-sound : goal.returns-clause-sound
returns-clause-sound c =
    let m = c.self.inside in
    (known-of m.setup m.journal.items (vec_capacity m.journal) m.parts m.histories c.args.self.now c.self.invariant
    c.self.view_is).sound

pub returns-clause-legal : goal.returns-clause-legal
returns-clause-legal c =
    let m = c.self.inside in
    legal-of m.setup m.journal.items (vec_capacity m.journal) m.parts m.histories c.args.self.now c.self.invariant
    c.self.view_is

pub returns-clause-bounded : goal.returns-clause-bounded
returns-clause-bounded c =
    let m = c.self.inside in
    bounded-of m.setup m.journal.items (vec_capacity m.journal) m.parts m.histories c.args.self.now c.self.invariant
    c.self.view_is

pub returns-clause-fair : goal.returns-clause-fair
returns-clause-fair c = λ fair.
    let m = c.self.inside in
    grants_are_fair c.args.self.now.setup c.args.self.now.journal (configuration c.args.self.now) fair
    (known-of m.setup m.journal.items (vec_capacity m.journal) m.parts m.histories c.args.self.now c.self.invariant
    c.self.view_is).sound
