-- Texts that are cut at a byte, one piece after another.
use Rattle.std.proofs.Common.{◌≡◌, ℕ, ◌+◌, ◌≤◌, Bool, true, false, cond, eqb, ltb, List, [], ◌∷◌, length, take, drop, Option, Some, None, refl, sym, ap, ◌∙◌, arith}
use Rattle.std.specs.List.{onto_first, position, position_or_len}
use Rattle.std.proofs.lemmas.Bool.{ltb-true, ltb-false}
use Rattle.std.proofs.lemmas.List.Elements.{All-from_get_or}
use Rattle.std.proofs.lemmas.List.Splits.{slice_split_first, slice_split_none}
use Rattle.std.proofs.lemmas.List.Sums.{fails_before_first}
use Rattle.fb_text.specs.Lines.{is_empty}
use Rattle.fb_text.specs.Places.{Words}
use Rattle.trace_text.specs.Reading.{pieces}

some_is : (b : Bool) (n m : ℕ) → cond b (Some n) None ≡ Some m → (b ≡ true) × (n ≡ m)
some_is true n m e = (refl, cc)
some_is false n m e = absurd cc

none_is : (b : Bool) (n : ℕ) → ◌≡◌ {A = Option ℕ} (cond b (Some n) None) None → b ≡ false
none_is true n e = absurd cc
none_is false n e = refl

-- A text has a piece.
pub some_piece : (byte : ℕ) (text : List ℕ) → is_empty (pieces byte text) ≡ false
some_piece byte [] = refl
some_piece byte (b ∷ bs) = go (eqb b byte) (pieces byte bs)
  where
    onto : (rest : Words) → is_empty (onto_first b rest) ≡ false
    onto [] = refl
    onto (p ∷ ps) = refl

    go : (c : Bool) (rest : Words) → is_empty (cond c ([] ∷ rest) (onto_first b rest)) ≡ false
    go true rest = refl
    go false rest = onto rest

-- The first piece ends at the first place of the byte.
pub first_piece :
    (byte : ℕ) (text : List ℕ) (n : ℕ) → Some n ≡ position (λ b. eqb b byte) text
    → pieces byte text ≡ take n text ∷ pieces byte (drop (n + 1) text)
first_piece byte text n e =
    let p : ℕ → Bool = λ b. eqb b byte in
    let h = some_is (ltb (position_or_len p text) (length text)) (position_or_len p text) n (sym e) in
    slice_split_first p text 0 (ltb-true _ _ h.0) ∙ ap (λ (k : ℕ). take k text ∷ pieces byte (drop (k + 1) text)) h.1

-- A text without the byte is one piece.
pub one_piece :
    (byte : ℕ) (text : List ℕ) → ◌≡◌ {A = Option ℕ} None (position (λ b. eqb b byte) text)
    → pieces byte text ≡ text ∷ []
one_piece byte text e =
    let p : ℕ → Bool = λ b. eqb b byte in
    let all : length text ≤ position_or_len p text =
    ltb-false _ _ (none_is (ltb (position_or_len p text) (length text)) (position_or_len p text) (sym e)) in
    slice_split_none p text
    (All-from_get_or (λ x. p x ≡ false) text 0 (λ i lt. fails_before_first p text i 0 (omega arith)))

-- ---- what is left of the pieces of a text, where they may have ended

pub taken_first :
    (done : Bool) (byte : ℕ) (text front back : List ℕ) (n : ℕ) (whole : Words) → done ≡ false
    → cond done [] (pieces byte text) ≡ whole → Some n ≡ position (λ b. eqb b byte) text
    → front ≡ take n text → back ≡ drop (n + 1) text → whole ≡ front ∷ cond done [] (pieces byte back)
taken_first true byte text front back n whole going left at f b = absurd cc
taken_first false byte text front back n whole going left at f b =
    sym left ∙ (first_piece byte text n at ∙ (λ i. sym f i ∷ pieces byte (sym b i)))

pub taken_last :
    (done : Bool) (byte : ℕ) (text : List ℕ) (whole : Words) → done ≡ false → cond done [] (pieces byte text) ≡ whole
    → ◌≡◌ {A = Option ℕ} None (position (λ b. eqb b byte) text) → whole ≡ text ∷ []
taken_last true byte text whole going left at = absurd cc
taken_last false byte text whole going left at = sym left ∙ one_piece byte text at

pub end_is :
    (done : Bool) (byte : ℕ) (text : List ℕ) (whole : Words) → cond done [] (pieces byte text) ≡ whole
    → done ≡ is_empty whole
end_is true byte text whole left = ap is_empty left
end_is false byte text whole left = sym (some_piece byte text) ∙ ap is_empty left
