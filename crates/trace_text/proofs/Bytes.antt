-- Texts that are cut at a byte and joined by it again.
use Rattle.std.proofs.Common.{◌≡◌, ℕ, ◌<◌, ◌≤◌, ◌^◌, ◌⊎◌, ⊎_elim, Bool, true, false, eqb, ltb, ◌&&◌, List, [], ◌∷◌, ◌++◌, refl, ap, ◌∙◌, arith, eq-eqb, ne_eqb}
use Rattle.std.specs.Prelude.{decimal}
use Rattle.std.specs.List.{onto_first, join_with_byte, list_all, AllByRecursion}
use Rattle.std.proofs.lemmas.Bool.{ltb-true, lt-ltb}
use Rattle.fb_text.specs.Places.{Words}
use Rattle.trace_text.specs.Reading.{pieces}
use Rattle.trace_text.proofs.Numbers.{AreDigits, decimal_digits}

-- The byte does not occur in the text.
abbrev pub NoneOf : ℕ → List ℕ → Type 0
NoneOf byte text = AllByRecursion (λ b. eqb b byte ≡ false) text

abbrev pub NoneIn : ℕ → Words → Type 0
NoneIn byte ws = AllByRecursion (NoneOf byte) ws

pub none_append : (byte : ℕ) (x y : List ℕ) → NoneOf byte x → NoneOf byte y → NoneOf byte (x ++ y)
none_append byte [] y h k = k
none_append byte (b ∷ x) y h k = (h.0, none_append byte x y h.1 k)

split_first : (byte : ℕ) (x rest : List ℕ) → NoneOf byte x → pieces byte (x ++ byte ∷ rest) ≡ x ∷ pieces byte rest
split_first byte [] rest none = rw (eq-eqb byte byte refl) refl
split_first byte (b ∷ x) rest none = rw none.0 (ap (onto_first b) (split_first byte x rest none.1))

split_only : (byte : ℕ) (x : List ℕ) → NoneOf byte x → pieces byte x ≡ x ∷ []
split_only byte [] none = refl
split_only byte (b ∷ x) none = rw none.0 (ap (onto_first b) (split_only byte x none.1))

-- What is joined by a byte is cut at it into the same pieces.
pub split_joined :
    (byte : ℕ) (w : List ℕ) (ws : Words) → NoneIn byte (w ∷ ws) → pieces byte (join_with_byte byte (w ∷ ws)) ≡ w ∷ ws
split_joined byte w [] none = split_only byte w none.0
split_joined byte w (v ∷ ws) none =
    split_first byte w (join_with_byte byte (v ∷ ws)) none.0 ∙ ap (λ (x : Words). w ∷ x) (split_joined byte v ws none.1)

pub two_pieces : (byte : ℕ) (x y : List ℕ) → NoneOf byte x → NoneOf byte y → pieces byte (x ++ byte ∷ y) ≡ x ∷ y ∷ []
two_pieces byte x y h k = split_first byte x y h ∙ ap (λ (z : Words). x ∷ z) (split_only byte y k)

-- ---- digits

apart : (b byte : ℕ) → (48 ≤ b) × (b ≤ 57) → (byte < 48) ⊎ (57 < byte) → eqb b byte ≡ false
apart b byte within off =
    ne_eqb b byte (λ e.
    ⊎_elim (λ (l : byte < 48). let k = within.0 in absurd (omega arith))
    (λ (l : 57 < byte). let k = within.1 in absurd (omega arith)) off)

digits_none : (byte : ℕ) (ds : List ℕ) → AreDigits ds → (byte < 48) ⊎ (57 < byte) → NoneOf byte ds
digits_none byte [] digits off = tt
digits_none byte (d ∷ ds) digits off = (apart d byte digits.0 off, digits_none byte ds digits.1 off)

-- A number has no byte that is not a digit.
pub decimal_none : (byte n : ℕ) → n < 2 ^ 64 → (byte < 48) ⊎ (57 < byte) → NoneOf byte (decimal n)
decimal_none byte n small off = digits_none byte (decimal n) (decimal_digits n small) off

-- ---- words, whose bytes are all above the space

abbrev pub is_ink : List ℕ → Bool
is_ink w = list_all (λ b. ltb 32 b) w

abbrev pub AreInk : Words → Type 0
AreInk ws = AllByRecursion (λ w. is_ink w ≡ true) ws

both_true : (a b : Bool) → a ≡ true → b ≡ true → (a && b) ≡ true
both_true true b h k = k
both_true false b h k = absurd cc

both : (a b : Bool) → (a && b) ≡ true → (a ≡ true) × (b ≡ true)
both true b h = (refl, h)
both false b h = absurd cc

pub ink_append : (x y : List ℕ) → is_ink x ≡ true → is_ink y ≡ true → is_ink (x ++ y) ≡ true
ink_append [] y h k = k
ink_append (b ∷ x) y h k =
    let p = both (ltb 32 b) (is_ink x) h in both_true (ltb 32 b) (is_ink (x ++ y)) p.0 (ink_append x y p.1 k)

digits_ink : (ds : List ℕ) → AreDigits ds → is_ink ds ≡ true
digits_ink [] digits = refl
digits_ink (d ∷ ds) digits =
    both_true (ltb 32 d) (is_ink ds) (lt-ltb 32 d (let k = digits.0.0 in omega arith)) (digits_ink ds digits.1)

pub decimal_ink : (n : ℕ) → n < 2 ^ 64 → is_ink (decimal n) ≡ true
decimal_ink n small = digits_ink (decimal n) (decimal_digits n small)

-- No word has a byte up to the space.
pub ink_none : (byte : ℕ) (w : List ℕ) → byte ≤ 32 → is_ink w ≡ true → NoneOf byte w
ink_none byte [] low ink = tt
ink_none byte (b ∷ w) low ink =
    let p = both (ltb 32 b) (is_ink w) ink in
    let above = ltb-true 32 b p.0 in (ne_eqb b byte (λ e. absurd (omega arith)), ink_none byte w low p.1)

pub ink_in : (byte : ℕ) (ws : Words) → byte ≤ 32 → AreInk ws → NoneIn byte ws
ink_in byte [] low ink = tt
ink_in byte (w ∷ ws) low ink = (ink_none byte w low ink.0, ink_in byte ws low ink.1)

pub ink_words : (xs ys : Words) → AreInk xs → AreInk ys → AreInk (xs ++ ys)
ink_words [] ys h k = k
ink_words (x ∷ xs) ys h k = (h.0, ink_words xs ys h.1 k)

-- Words with a byte between two of them have no other byte than theirs and that one.
pub joined_none :
    (byte between : ℕ) (ws : Words) → eqb between byte ≡ false → NoneIn byte ws
    → NoneOf byte (join_with_byte between ws)
joined_none byte between [] other none = tt
joined_none byte between (w ∷ []) other none = none.0
joined_none byte between (w ∷ v ∷ ws) other none =
    none_append byte w (between ∷ join_with_byte between (v ∷ ws)) none.0
    (other, joined_none byte between (v ∷ ws) other none.1)

pub joined_ink :
    (between : ℕ) (ws : Words) → ltb 32 between ≡ true → AreInk ws → is_ink (join_with_byte between ws) ≡ true
joined_ink between [] high ink = refl
joined_ink between (w ∷ []) high ink = ink.0
joined_ink between (w ∷ v ∷ ws) high ink =
    ink_append w (between ∷ join_with_byte between (v ∷ ws)) ink.0
    (both_true (ltb 32 between) (is_ink (join_with_byte between (v ∷ ws))) high
    (joined_ink between (v ∷ ws) high ink.1))
