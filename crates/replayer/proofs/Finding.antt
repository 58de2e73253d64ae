-- The first line feed of a text.
use Rattle.std.proofs.Common.{◌≡◌, ℕ, zero, suc, ◌+◌, ◌<◌, ◌≤◌, Bool, true, false, List, [], ◌∷◌, ◌++◌, length, take, drop, refl, sym, ap, ◌∙◌, arith, subst}
use Rattle.std.proofs.lemmas.Bool.Decides.{Decides-eqb}
use Rattle.fb_text.specs.Lines.{is_line_feed}
use Rattle.memchr.specs.Find.{Nowhere, Passes}
use Rattle.replayer.specs.Reader.{LacksFeed, IsCut}

-- No byte before this place is a line feed.
abbrev pub NoneUpTo : List ℕ → ℕ → Type 0
NoneUpTo text k = Nowhere (Passes is_line_feed text) 0 k

-- What holds of a text holds after its first byte.
behind : (b : ℕ) (text : List ℕ) (k : ℕ) → NoneUpTo (b ∷ text) (suc k) → NoneUpTo text k
behind b text k none = λ j low high found. none (suc j) (omega arith) (omega arith) found

-- The first byte is no line feed.
first_is_none : (b : ℕ) (text : List ℕ) (k : ℕ) → NoneUpTo (b ∷ text) (suc k) → is_line_feed b ≡ false
first_is_none b text k none = go (is_line_feed b) refl
  where
    go : (is : Bool) → is_line_feed b ≡ is → is_line_feed b ≡ false
    go true is = absurd (none 0 (omega arith) (omega arith) is)
    go false is = is

-- Where no byte of a text is a line feed, it lacks one.
pub lacks : (text : List ℕ) → NoneUpTo text (length text) → LacksFeed text
lacks [] none = tt
lacks (b ∷ text) none = (first_is_none b text (length text) none, lacks text (behind b text (length text) none))

lacks_before : (text : List ℕ) (k : ℕ) → NoneUpTo text k → LacksFeed (take k text)
lacks_before [] zero none = tt
lacks_before [] (suc k) none = tt
lacks_before (b ∷ text) zero none = tt
lacks_before (b ∷ text) (suc k) none = (first_is_none b text k none, lacks_before text k (behind b text k none))

shift_drop : (n b : ℕ) (text : List ℕ) → drop (suc n + 1) (b ∷ text) ≡ drop (n + 1) text
shift_drop n b text = let e : suc n + 1 ≡ suc (n + 1) = omega arith in ap (λ (k : ℕ). drop k (b ∷ text)) e

parts_at :
    (text : List ℕ) (k : ℕ) → k < length text → Passes is_line_feed text k
    → text ≡ take k text ++ 10 ∷ drop (k + 1) text
parts_at [] k there found = absurd (omega (arith, there))
parts_at (b ∷ text) zero there found = let d = Decides-eqb b 10 in ap (λ (x : ℕ). x ∷ text) (d.0 found)
parts_at (b ∷ text) (suc k) there found =
    ap (λ (x : List ℕ). b ∷ x)
    (parts_at text k (omega (arith, there)) found
    ∙ ap (λ (x : List ℕ). take k text ++ 10 ∷ x) (sym (shift_drop k b text)))

-- A text is cut at its first line feed.
pub cut_there :
    (text : List ℕ) (k : ℕ) (line rest : List ℕ) → NoneUpTo text k → k < length text → Passes is_line_feed text k
    → line ≡ take k text → rest ≡ drop (k + 1) text → IsCut text line rest
cut_there text k line rest none there found front back = record {
  lacks = subst LacksFeed (sym front) (lacks_before text k none);
  parts = parts_at text k there found ∙ (λ i. sym front i ++ 10 ∷ sym back i);
}
