-- The words of a generator, one after another.
use Rattle.std.proofs.Common.{◌≡◌, ℕ, zero, suc, ◌+◌, refl, ap, sym, ◌∙◌, add-one}
use Rattle.rand_pcg.specs.Lcg.{Lcg, advance, next, state_after, next_state}
use Rattle.rand_core.specs.Pcg32Seed.{pcg32_seed}
use Rattle.rand_pcg.specs.Pcg.{pcg32, pcg32_of_seed, multiplier_64}
use Rattle.bus_model.specs.Turns.{seeded_word}
use Rattle.generator.specs.Words.{generator_after}

next-advance-state : (w m i n s : ℕ) → next_state w m i (state_after w m i n s) ≡ state_after w m i (suc n) s
unfolding state_after
next-advance-state w m i zero s = refl
next-advance-state w m i (suc n) s = next-advance-state w m i n (next_state w m i s)

next-advance : (w m n : ℕ) (g : Lcg) → next w m (advance w m n g) ≡ advance w m (suc n) g
next-advance w m n g = ap (λ s. record g { state = s }) (next-advance-state w m g.increment n g.state)

pub first_generator : (seed : ℕ) → pcg32_of_seed (pcg32_seed 16 seed) ≡ generator_after seed 0
unfolding state_after
first_generator seed = refl

pub next_generator : (seed words : ℕ) → (pcg32 (generator_after seed words)).1 ≡ generator_after seed (suc words)
next_generator seed words = next-advance 64 multiplier_64 words (pcg32_of_seed (pcg32_seed 16 seed))

pub drawn_word : (seed words : ℕ) → (pcg32 (generator_after seed words)).0 ≡ seeded_word seed words
unfolding seeded_word
drawn_word seed words = refl

-- What a step of the generator gives.
pub step_word :
    (seed words word : ℕ) (g h : Lcg) → (word, h) ≡ pcg32 g → g ≡ generator_after seed words
    → word ≡ seeded_word seed words
step_word seed words word g h step is = ap (λ (p : ℕ × Lcg). p.0) (step ∙ ap pcg32 is) ∙ drawn_word seed words

pub step_next :
    (seed words word : ℕ) (g h : Lcg) → (word, h) ≡ pcg32 g → g ≡ generator_after seed words
    → h ≡ generator_after seed (words + 1)
step_next seed words word g h step is =
    ap (λ (p : ℕ × Lcg). p.1) (step ∙ ap pcg32 is) ∙ next_generator seed words
    ∙ ap (generator_after seed) (sym (add-one words))
