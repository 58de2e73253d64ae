-- The turns of a seeded schedule, one after another.
use Rattle.std.proofs.Common.{◌≡◌, ◌≢◌, ℕ, zero, suc, ◌+◌, ◌-◌, ◌%◌, ◌≤◌, List, ◌∷◌, refl, ap, ◌∙◌, arith}
use Rattle.std.specs.List.{AllByRecursion}
use Rattle.std.proofs.lemmas.Nat.{mod_below}
use Rattle.rand_pcg.specs.Lcg.{Lcg}
use Rattle.rand_pcg.specs.Pcg.{pcg32}
use Rattle.bus_model.specs.Turns.{seeded_word}
use Rattle.generator.specs.Words.{generator_after}
use Rattle.generator.specs.Schedule.{turns_from, turns_of}
use Rattle.generator.proofs.Draws.{drawn_word, next_generator}

-- The turns by the words of a generator are those by the words of its seed.
pub turns_by_words :
    (n boards turns words : ℕ) → turns_of (generator_after n words) boards turns ≡ turns_from n boards words turns
turns_by_words n boards zero words = refl
turns_by_words n boards (suc turns) words =
    ap (λ w. (1 + w % boards) ∷ turns_of (pcg32 (generator_after n words)).1 boards turns) (drawn_word n words)
    ∙ ap (λ (g : Lcg). (1 + seeded_word n words % boards) ∷ turns_of g boards turns) (next_generator n words)
    ∙ ap (λ (ts : List ℕ). (1 + seeded_word n words % boards) ∷ ts) (turns_by_words n boards turns (suc words))

-- Each turn is that of a board.
pub turns_are_places :
    (n boards turns words : ℕ) → 1 ≤ boards
    → AllByRecursion (λ place. (1 ≤ place) × (place ≤ boards)) (turns_from n boards words turns)
turns_are_places n boards zero words some = tt
turns_are_places n boards (suc turns) words some =
    let below = mod_below (seeded_word n words) boards (omega arith) in
    ((omega arith, omega (arith, below)), turns_are_places n boards turns (suc words) some)

-- One turn is taken.
pub turn_taken :
    (boards left word : ℕ) (g h : Lcg) → left ≢ 0 → (word, h) ≡ pcg32 g
    → turns_of g boards left ≡ (1 + word % boards) ∷ turns_of h boards (left - 1)
turn_taken boards zero word g h some step = absurd (some refl)
turn_taken boards (suc left) word g h some step =
    let back : suc left - 1 ≡ left = omega arith in
    let first : word ≡ (pcg32 g).0 = ap (λ (p : ℕ × Lcg). p.0) step in
    let rest : h ≡ (pcg32 g).1 = ap (λ (p : ℕ × Lcg). p.1) step in
    rw (back, first, rest) refl
