-- The lines of a whole text.
use Rattle.std.proofs.Common.{◌≡◌, ℕ, ◌+◌, ◌<◌, ◌≤◌, ◌^◌, Bool, true, false, cond, leb, List, [], ◌∷◌, ◌++◌, map, length, Option, Some, None, Ok, Err, refl, sym, ap, subst, ◌∙◌, append_assoc, arith}
use Rattle.std.specs.Prelude.{decimal}
use Rattle.std.specs.List.{AllByRecursion}
use Rattle.std.proofs.lemmas.Bool.{leb-true, le-leb}
use Rattle.fb_text.specs.declared.fault.TextKind.{TextKind}
use Rattle.fb_text.specs.Number.{number_of}
use Rattle.fb_text.specs.Lines.{words, contents}
use Rattle.fb_text.specs.Places.{Words, Item, text_end, items, line_items, lines_items, lines_places}
use Rattle.fb_text.specs.Unread.{Line, with_line, numbered, number_within}
use Rattle.fb_text.proofs.LineItems.{items_line, cut_line}
use Rattle.fb_text.proofs.Decimal.{number_again}

-- ---- items

pub rows : List Line → List Words
rows ls = map (λ (l : Line). l.words) ls

pub text_items :
    (ls : List Line) (end : ℕ)
    → items (lines_places ls end) ≡ lines_items (map (λ (l : Line). l.words) ls) ++ text_end ∷ []
text_items [] end = refl
text_items (l ∷ ls) end =
    items_line l.number l.words (lines_places ls end)
    ∙ (ap (λ (v : List Item). line_items l.words ++ v) (text_items ls end)
    ∙ sym (append_assoc (line_items l.words) (lines_items (map (λ (l : Line). l.words) ls)) (text_end ∷ [])))

no_end : (l : Words) (xs ys : List Item) → text_end ∷ [] ≡ (line_items l ++ xs) ++ ys → ⊥
no_end [] xs ys e = cc
no_end (w ∷ l) xs ys e = cc

pub same_rows : (a b : List Words) → lines_items a ++ text_end ∷ [] ≡ lines_items b ++ text_end ∷ [] → a ≡ b
same_rows [] [] e = refl
same_rows [] (l ∷ b) e = absurd (no_end l (lines_items b) (text_end ∷ []) e)
same_rows (l ∷ a) [] e = absurd (no_end l (lines_items a) (text_end ∷ []) (sym e))
same_rows (l ∷ a) (m ∷ b) e =
    let both = cut_line l m (lines_items a ++ text_end ∷ []) (lines_items b ++ text_end ∷ [])
    (sym (append_assoc (line_items l) (lines_items a) (text_end ∷ []))
    ∙ (e ∙ append_assoc (line_items m) (lines_items b) (text_end ∷ []))) in
    ap (λ (v : Words). v ∷ a) both.0 ∙ ap (λ (v : List Words). m ∷ v) (same_rows a b both.1)

-- the lines of a text have words
pub AllHaveWords : List Line → Type 0
AllHaveWords ls = AllByRecursion (λ (l : Line). 0 < length l.words) ls

pub numbered_words :
    (n : ℕ) (pieces : List (List ℕ)) → AllByRecursion (λ (l : Line). 0 < length l.words) (numbered n pieces)
numbered_words n [] = tt
numbered_words n (p ∷ pieces) = go (words (contents p)) (numbered_words (n + 1) pieces)
  where
    go :
        (ws : Words) → AllByRecursion (λ (l : Line). 0 < length l.words) (numbered (n + 1) pieces)
        → AllByRecursion (λ (l : Line). 0 < length l.words) (with_line n ws (numbered (n + 1) pieces))
    go [] rest = rest
    go (w ∷ ws) rest = (omega arith, rest)

-- ---- numbers

-- a number that was read is that of the word
pub number_takes : (max : ℕ) (o : Option ℕ) (n : ℕ) → number_within max o ≡ Ok n → (o ≡ Some n) × (n ≤ max)
number_takes max None n e = absurd cc
number_takes max (Some m) n e = go (leb m max) refl e
  where
    go : (b : Bool) → leb m max ≡ b → cond b (Ok m) (Err TextKind.TooLarge) ≡ Ok n → (Some m ≡ Some n) × (n ≤ max)
    go true h e =
        let same : m ≡ n = cc in (ap (λ (k : ℕ). Some k) same, subst (λ (k : ℕ). k ≤ max) same (leb-true m max h))
    go false h e = absurd cc

pub number_within_again : (max n : ℕ) → n ≤ max → max < 2 ^ 64 → number_within max (number_of (decimal n)) ≡ Ok n
number_within_again max n fits small = rw (number_again n (omega arith), le-leb n max fits) refl
