-- How words are written one after another.
use Rattle.std.proofs.Common.{◌≡◌, ℕ, List, [], ◌∷◌, ◌++◌, refl, ap, append_assoc, sym}
use Rattle.fb_text.specs.Written.{after_words}

-- Words after others are written after them.
pub after_words-append : (v w : List (List ℕ)) → after_words (v ++ w) ≡ after_words v ++ after_words w
after_words-append [] w = refl
after_words-append (x ∷ v) w =
    ap (λ bytes. 32 ∷ bytes) (rw (after_words-append v w) (sym (append_assoc x (after_words v) (after_words w))))
