-- The bytes before the first line feed of a text.
use Rattle.std.proofs.Common.{◌≡◌, ℕ, ◌+◌, ◌<◌, ◌≤◌, Bool, true, false, cond, List, [], ◌∷◌, ◌++◌, Some, None, length, take, drop, refl, sym, ap, ◌∙◌, arith, suc, subst}
use Rattle.std.specs.Prelude.{not, nat_lt}
use Rattle.std.specs.List.{position, position_or_len}
use Rattle.std.proofs.lemmas.Bool.Decides.{Decides-eqb}
use Rattle.std.proofs.lemmas.Bool.{ltb-true, ltb-false}
use Rattle.fb_text.specs.Lines.{is_line_feed}
use Rattle.replayer.specs.Reader.{LacksFeed, IsCut}

-- The place of the first line feed, or the length.
abbrev pub place : List ℕ → ℕ
place text = position_or_len is_line_feed text

shift_take : (n b : ℕ) (text : List ℕ) → take (1 + n) (b ∷ text) ≡ b ∷ take n text
shift_take n b text = let e : 1 + n ≡ suc n = omega arith in ap (λ (k : ℕ). take k (b ∷ text)) e

pub lacks_before : (text : List ℕ) → LacksFeed (take (place text) text)
lacks_before [] = tt
lacks_before (b ∷ text) = go (is_line_feed b) refl (lacks_before text)
  where
    go :
        (is : Bool) → is_line_feed b ≡ is → LacksFeed (take (place text) text)
        → LacksFeed (take (place (b ∷ text)) (b ∷ text))
    go true is more = rw is tt
    go false is more =
        let both : LacksFeed (b ∷ take (place text) text) = (is, more) in
        rw is (subst LacksFeed (sym (shift_take (place text) b text)) both)
