use Rattle.std.proofs.Common.{ap, ◌∙◌, ◌*◌, List, ℕ, ◌≤◌, subst, sym}
use Rattle.std.specs.List.{AllByRecursion}
use Rattle.rand_pcg.specs.Lcg.{Lcg}
use Rattle.generator.specs.Words.{generator_after}
use Rattle.generator.specs.Schedule.{turns_of}
use Rattle.generator.proofs.Scheduling.{turns_by_words, turns_are_places}
use Rattle.generator.proofs.turns.SeededTurns.new.Goals as goal

pub returns-clause-turns : goal.returns-clause-turns
returns-clause-turns c =
    ap (λ (g : Lcg). turns_of g c.args.boards (16 * c.from.result)) c.seeded.ensures
    ∙ ap (λ (a : ℕ). turns_of (generator_after c.args.n 0) c.args.boards (16 * a)) c.from.ensures
    ∙ turns_by_words c.args.n c.args.boards (16 * c.args.accesses) 0

pub returns-clause-places : goal.returns-clause-places
returns-clause-places c =
    let e =
    ap (λ (g : Lcg). turns_of g c.args.boards (16 * c.from.result)) c.seeded.ensures
    ∙ ap (λ (a : ℕ). turns_of (generator_after c.args.n 0) c.args.boards (16 * a)) c.from.ensures
    ∙ turns_by_words c.args.n c.args.boards (16 * c.args.accesses) 0 in
    subst (λ (ts : List ℕ). AllByRecursion (λ place. (1 ≤ place) × (place ≤ c.args.boards)) ts) (sym e)
    (turns_are_places c.args.n c.args.boards (16 * c.args.accesses) 0 c.requires)
