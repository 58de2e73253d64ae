-- The words of memory cut into lines, line by line.
use Rattle.std.proofs.Common.{◌≡◌, ℕ, zero, suc, ◌+◌, ◌*◌, ◌/◌, ◌<◌, ◌≤◌, List, [], ◌∷◌, ◌++◌, length, get_or, map, take, refl, ap, sym, ◌∙◌, arith, add-one}
use Rattle.std.proofs.lemmas.List.{take_all}
use Rattle.bus_model.specs.Configuration.{lines_of_words}
use Rattle.coherence.proofs.Opening.{length-lines_of_words}

line-next :
    (words : List ℕ) (n d : ℕ) → 4 * n + 3 < length words
    → take (suc n) (lines_of_words words)
    ≡ take n (lines_of_words words)
    ++ (get_or words (4 * n) d ∷ get_or words (4 * n + 1) d ∷ get_or words (4 * n + 2) d ∷ get_or words (4 * n + 3) d
    ∷ []) ∷ []
line-next [] n d h = absurd (omega arith)
line-next (a ∷ []) n d h = absurd (omega arith)
line-next (a ∷ b ∷ []) n d h = absurd (omega arith)
line-next (a ∷ b ∷ c ∷ []) n d h = absurd (omega arith)
line-next (a ∷ b ∷ c ∷ e ∷ rest) zero d h = refl
line-next (a ∷ b ∷ c ∷ e ∷ rest) (suc n) d h =
    let p : 4 * suc n ≡ suc (suc (suc (suc (4 * n)))) = omega arith in
    let q : 4 * suc n + 1 ≡ suc (suc (suc (suc (4 * n + 1)))) = omega arith in
    let r : 4 * suc n + 2 ≡ suc (suc (suc (suc (4 * n + 2)))) = omega arith in
    let s : 4 * suc n + 3 ≡ suc (suc (suc (suc (4 * n + 3)))) = omega arith in
    rw (q, r, s, p) (ap (λ lines. (a ∷ b ∷ c ∷ e ∷ []) ∷ lines) (line-next rest n d (omega arith)))

-- One more line.
pub line-more :
    (words : List ℕ) (lines next : List (List ℕ)) (n d : ℕ) → n < length words / 4
    → lines ≡ take n (lines_of_words words)
    → next
    ≡ lines
    ++ (get_or words (4 * n) d ∷ get_or words (4 * n + 1) d ∷ get_or words (4 * n + 2) d ∷ get_or words (4 * n + 3) d
    ∷ []) ∷ []
    → next ≡ take (n + 1) (lines_of_words words)
line-more words lines next n d h e s =
    s
    ∙ ap (λ before.
    before
    ++ (get_or words (4 * n) d ∷ get_or words (4 * n + 1) d ∷ get_or words (4 * n + 2) d ∷ get_or words (4 * n + 3) d
    ∷ []) ∷ []) e
    ∙ sym (line-next words n d (omega arith))
    ∙ ap (λ k. take k (lines_of_words words)) (sym (add-one n))

-- All lines.
pub lines-all :
    (words : List ℕ) (n : ℕ) → length words / 4 ≤ n → take n (lines_of_words words) ≡ lines_of_words words
lines-all words n h = take_all n (lines_of_words words) (omega (arith, length-lines_of_words words))

-- One more value that is the same for each element.
pub same_next :
    {A B : Type 0} (x : B) (xs : List A) (n : ℕ) → n < length xs
    → map (λ (a : A). x) (take n xs) ++ x ∷ [] ≡ map (λ (a : A). x) (take (n + 1) xs)
same_next x [] n h = absurd (omega arith)
same_next x (a ∷ xs) zero h = refl
same_next x (a ∷ xs) (suc n) h =
    rw (add-one (suc n)) (ap (λ ys. x ∷ ys) (same_next x xs n (omega arith) ∙ ap (λ k. map (λ (b : _). x) (take k xs)) (add-one n)))
