-- The items and the places of lines, and how they are split.
use Rattle.std.proofs.Common.{◌≡◌, ℕ, ◌⊎◌, inl, inr, List, [], ◌∷◌, ◌++◌, map, Option, Some, None, refl, sym, ap, ◌∙◌, append_assoc}
use Rattle.std.proofs.lemmas.List.{append-nil}
use Rattle.fb_text.specs.Places.{Item, word, line_end, Place, line_places, items, Words, line_items, lines_items}

-- ---- items of lines

pub words_append : (a b : Words) → map word (a ++ b) ≡ map word a ++ map word b
words_append [] b = refl
words_append (w ∷ a) b = ap (λ (v : List Item). word w ∷ v) (words_append a b)

pub lines_append : (a b : List Words) → lines_items (a ++ b) ≡ lines_items a ++ lines_items b
lines_append [] b = refl
lines_append (l ∷ a) b =
    ap (λ (v : List Item). line_items l ++ v) (lines_append a b)
    ∙ sym (append_assoc (line_items l) (lines_items a) (lines_items b))

pub lines_push : (a : List Words) (l : Words) → lines_items (a ++ l ∷ []) ≡ lines_items a ++ line_items l
lines_push a l = lines_append a (l ∷ []) ∙ ap (λ (v : List Item). lines_items a ++ v) (append-nil (line_items l))

pub items_line : (n : ℕ) (ws : Words) (rest : List Place) → items (line_places n ws rest) ≡ line_items ws ++ items rest
items_line n [] rest = refl
items_line n (w ∷ ws) rest = ap (λ (xs : List Item). word w ∷ xs) (items_line n ws rest)

pub items_append : (a b : List Place) → items (a ++ b) ≡ items a ++ items b
items_append [] b = refl
items_append (p ∷ a) b = ap (λ (v : List Item). p.item ∷ v) (items_append a b)

-- two lines that begin one text are one line
pub cut_line : (a b : Words) (x y : List Item) → line_items a ++ x ≡ line_items b ++ y → (a ≡ b) × (x ≡ y)
cut_line [] [] x y e = (refl, cc)
cut_line [] (w ∷ b) x y e = absurd cc
cut_line (w ∷ a) [] x y e = absurd cc
cut_line (v ∷ a) (w ∷ b) x y e =
    let rest : line_items a ++ x ≡ line_items b ++ y = cc in
    let head : v ≡ w = cc in
    let both = cut_line a b x y rest in
    (ap (λ (u : List ℕ). u ∷ a) head ∙ ap (λ (u : Words). w ∷ u) both.0, both.1)

pub words_no_line : (l ws : Words) (x : List Item) → line_items l ++ x ≡ map word ws → ⊥
words_no_line [] [] x e = cc
words_no_line [] (w ∷ ws) x e = cc
words_no_line (v ∷ l) [] x e = cc
words_no_line (v ∷ l) (w ∷ ws) x e = let rest : line_items l ++ x ≡ map word ws = cc in words_no_line l ws x rest

pub words_same : (a b : Words) → map word a ≡ map word b → a ≡ b
words_same [] [] e = refl
words_same [] (w ∷ b) e = absurd cc
words_same (v ∷ a) [] e = absurd cc
words_same (v ∷ a) (w ∷ b) e =
    let head : v ≡ w = cc in
    let rest : map word a ≡ map word b = cc in
    ap (λ (u : List ℕ). u ∷ a) head ∙ ap (λ (u : Words). w ∷ u) (words_same a b rest)

-- a place in a text has these lines and these words of its line before it, and no others
pub same_place :
    (a b : List Words) (v w : Words) → lines_items a ++ map word v ≡ lines_items b ++ map word w → (a ≡ b) × (v ≡ w)
same_place [] [] v w e = (refl, words_same v w e)
same_place [] (l ∷ b) v w e =
    absurd (words_no_line l v (lines_items b ++ map word w)
    (sym (append_assoc (line_items l) (lines_items b) (map word w)) ∙ sym e))
same_place (l ∷ a) [] v w e =
    absurd (words_no_line l w (lines_items a ++ map word v)
    (sym (append_assoc (line_items l) (lines_items a) (map word v)) ∙ e))
same_place (l ∷ a) (m ∷ b) v w e =
    let both = cut_line l m (lines_items a ++ map word v) (lines_items b ++ map word w)
    (sym (append_assoc (line_items l) (lines_items a) (map word v))
    ∙ (e ∙ append_assoc (line_items m) (lines_items b) (map word w))) in
    let others = same_place a b v w both.1 in
    (ap (λ (u : Words). u ∷ a) both.0 ∙ ap (λ (u : List Words). m ∷ u) others.0, others.1)

-- ---- last items

pub snoc_last : {X : Type 0} (a b : List X) (x y : X) → a ++ x ∷ [] ≡ b ++ y ∷ [] → x ≡ y
snoc_last [] [] x y e = cc
snoc_last [] (v ∷ []) x y e = absurd cc
snoc_last [] (v ∷ w ∷ b) x y e = absurd cc
snoc_last (u ∷ []) [] x y e = absurd cc
snoc_last (u ∷ v ∷ a) [] x y e = absurd cc
snoc_last {X} (u ∷ a) (v ∷ b) x y e = let rest : a ++ x ∷ [] ≡ b ++ y ∷ [] = cc in snoc_last a b x y rest

pub empty_or_last : {X : Type 0} (xs : List X) → (xs ≡ []) ⊎ ((p : List X) × (x : X) × (xs ≡ p ++ x ∷ []))
empty_or_last [] = inl refl
empty_or_last {X} (x ∷ xs) = elim (empty_or_last xs) [
  | inl h ↦ inr ([], x, ap (λ (v : List X). x ∷ v) h)
  | inr h ↦ inr (x ∷ h.0, h.1, ap (λ (v : List X). x ∷ v) h.2)
]

-- a word that comes last in a list comes last on its line
pub last_word :
    (earlier : List Words) (front : Words) (xs : List Item) (w : List ℕ)
    → lines_items earlier ++ map word front ≡ xs ++ word w ∷ [] → (p : Words) × (front ≡ p ++ w ∷ [])
last_word earlier front xs w e = go (empty_or_last front) (empty_or_last earlier)
  where
    go :
        (front ≡ []) ⊎ ((p : Words) × (v : List ℕ) × (front ≡ p ++ v ∷ []))
        → (earlier ≡ []) ⊎ ((p : List Words) × (l : Words) × (earlier ≡ p ++ l ∷ []))
        → (p : Words) × (front ≡ p ++ w ∷ [])
    go (inr (p, v, h)) any =
        let ends : lines_items earlier ++ map word front ≡ (lines_items earlier ++ map word p) ++ word v ∷ [] =
        ap (λ (u : Words). lines_items earlier ++ map word u) h
        ∙ (ap (λ (u : List Item). lines_items earlier ++ u) (words_append p (v ∷ []))
        ∙ sym (append_assoc (lines_items earlier) (map word p) (word v ∷ []))) in
        let last : word v ≡ word w =
        snoc_last (lines_items earlier ++ map word p) xs (word v) (word w) (sym ends ∙ e) in
        let same : v ≡ w = cc in
        (p, h ∙ ap (λ (u : List ℕ). p ++ u ∷ []) same)
    go (inl h) (inl k) =
        absurd (nothing xs
        (sym (ap (λ (u : List Words). lines_items u ++ map word front) k ∙ ap (λ (u : Words). map word u) h) ∙ e))
      where
        nothing : (xs : List Item) → [] ≡ xs ++ word w ∷ [] → ⊥
        nothing [] e = cc
        nothing (x ∷ xs) e = cc
    go (inl h) (inr (p, l, k)) =
        let ends : lines_items earlier ++ map word front ≡ (lines_items p ++ map word l) ++ line_end ∷ [] =
        ap (λ (u : Words). lines_items earlier ++ map word u) h
        ∙ (append-nil (lines_items earlier)
        ∙ (ap lines_items k
        ∙ (lines_push p l ∙ sym (append_assoc (lines_items p) (map word l) (line_end ∷ []))))) in
        let last : line_end ≡ word w = snoc_last (lines_items p ++ map word l) xs line_end (word w) (sym ends ∙ e) in
        absurd cc

-- ---- where a line stops

-- the item at which a line stops: a word, or its end
abbrev pub item_at : Option (List ℕ) → Item
item_at None = line_end
item_at (Some w) = word w

abbrev pub from : Option (List ℕ) → Words → Words
from None more = []
from (Some w) more = w ∷ more

-- a line of a text that begins so
pub line_begins :
    (front : Words) (at : Option (List ℕ)) (more : List Item) (ws : Words) (ys : List Item)
    → line_items ws ++ ys ≡ map word front ++ item_at at ∷ more → (m : Words) × (ws ≡ front ++ from at m)
line_begins [] None more [] ys e = ([], refl)
line_begins [] None more (w ∷ ws) ys e = absurd cc
line_begins [] (Some v) more [] ys e = absurd cc
line_begins [] (Some v) more (w ∷ ws) ys e = let same : w ≡ v = cc in (ws, ap (λ (u : List ℕ). u ∷ ws) same)
line_begins (v ∷ front) at more [] ys e = absurd cc
line_begins (v ∷ front) at more (w ∷ ws) ys e =
    let same : w ≡ v = cc in
    let rest : line_items ws ++ ys ≡ map word front ++ item_at at ∷ more = cc in
    let found = line_begins front at more ws ys rest in
    (found.0, ap (λ (u : List ℕ). u ∷ ws) same ∙ ap (λ (u : Words). v ∷ u) found.1)

-- ---- splits

pub record SplitsWords (ws : Words) (b : List Item) (i : Item) (a : List Item) : Type 0 where
  pub front : Words
  pub here : List ℕ
  pub back : Words
  pub parts : ws ≡ front ++ here ∷ back
  pub before : b ≡ map word front
  pub item : i ≡ word here

pub split_words :
    (ws : Words) (b : List Item) (i : Item) (a : List Item) → map word ws ≡ b ++ i ∷ a → SplitsWords ws b i a
split_words [] [] i a e = absurd cc
split_words [] (x ∷ b) i a e = absurd cc
split_words (w ∷ ws) [] i a e = record { front = []; here = w; back = ws; parts = refl; before = refl; item = cc }
split_words (w ∷ ws) (x ∷ b) i a e =
    let rest : map word ws ≡ b ++ i ∷ a = cc in
    let head : x ≡ word w = cc in
    let s = split_words ws b i a rest in
    record {
      front = w ∷ s.front;
      here = s.here;
      back = s.back;
      parts = ap (λ (u : Words). w ∷ u) s.parts;
      before = ap (λ (y : Item). y ∷ b) head ∙ ap (λ (v : List Item). word w ∷ v) s.before;
      item = s.item;
    }

pub split_line :
    (ws : Words) (b : List Item) (i : Item) (a : List Item) → line_items ws ≡ b ++ i ∷ a
    → SplitsWords ws b i a ⊎ (i ≡ line_end)
split_line [] [] i a e = inr cc
split_line [] (x ∷ []) i a e = absurd cc
split_line [] (x ∷ y ∷ b) i a e = absurd cc
split_line (w ∷ ws) [] i a e = inl (record { front = []; here = w; back = ws; parts = refl; before = refl; item = cc })
split_line (w ∷ ws) (x ∷ b) i a e =
    let rest : line_items ws ≡ b ++ i ∷ a = cc in
    let head : x ≡ word w = cc in
    elim (split_line ws b i a rest) [
      | inl s ↦ inl (record {
        front = w ∷ s.front;
        here = s.here;
        back = s.back;
        parts = ap (λ (u : Words). w ∷ u) s.parts;
        before = ap (λ (y : Item). y ∷ b) head ∙ ap (λ (v : List Item). word w ∷ v) s.before;
        item = s.item;
      })
      | inr h ↦ inr h
    ]

-- a split of two lists is a split of one of them
pub record SplitsBehind {X : Type 0} (x y b : List X) (i : X) (a : List X) : Type 0 where
  pub front : List X
  pub before : b ≡ x ++ front
  pub rest : y ≡ front ++ i ∷ a

pub split_append :
    {X : Type 0} (x y b : List X) (i : X) (a : List X) → x ++ y ≡ b ++ i ∷ a
    → ((more : List X) × (x ≡ b ++ i ∷ more)) ⊎ SplitsBehind x y b i a
split_append [] y b i a e = inr (record { front = b; before = refl; rest = e })
split_append {X} (v ∷ x) y [] i a e = let same : v ≡ i = cc in inl (x, ap (λ (u : X). u ∷ x) same)
split_append {X} (v ∷ x) y (w ∷ b) i a e =
    let rest : x ++ y ≡ b ++ i ∷ a = cc in
    let same : v ≡ w = cc in
    elim (split_append x y b i a rest) [
      | inl s ↦ inl (s.0, ap (λ (u : X). u ∷ x) same ∙ ap (λ (u : List X). w ∷ u) s.1)
      | inr s ↦ inr (record {
        front = s.front;
        before = ap (λ (u : List X). w ∷ u) s.before ∙ ap (λ (u : X). u ∷ (x ++ s.front)) (sym same);
        rest = s.rest;
      })
    ]

-- ---- the places of a line

abbrev pub front_places : ℕ → Words → List Place
front_places n front = map (λ w. record { line = n; item = word w }) front

pub after_stop : ℕ → Option (List ℕ) → Words → List Place → List Place
after_stop n None r rest = rest
after_stop n (Some w) r rest = line_places n r rest

pub stop_splits :
    (n : ℕ) (front : Words) (at : Option (List ℕ)) (r : Words) (rest : List Place)
    → line_places n (front ++ from at r) rest
    ≡ front_places n front ++ record { line = n; item = item_at at } ∷ after_stop n at r rest
unfolding after_stop
stop_splits n [] None r rest = refl
stop_splits n [] (Some w) r rest = refl
stop_splits n (v ∷ front) at r rest =
    ap (λ (ps : List Place). record { line = n; item = word v } ∷ ps) (stop_splits n front at r rest)

pub items_front : (n : ℕ) (front : Words) → items (front_places n front) ≡ map word front
items_front n [] = refl
items_front n (w ∷ front) = ap (λ (v : List Item). word w ∷ v) (items_front n front)

pub whole_line : (n : ℕ) (ws : Words) (rest : List Place) → line_places n ws rest ≡ line_places n ws [] ++ rest
whole_line n [] rest = refl
whole_line n (w ∷ ws) rest = ap (λ (ps : List Place). record { line = n; item = word w } ∷ ps) (whole_line n ws rest)
