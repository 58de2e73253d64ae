-- A text has one first fault, and a text that is read has none.
use Rattle.std.proofs.Common.{◌≡◌, ℕ, ◌⊎◌, inl, inr, List, [], ◌∷◌, ◌++◌, refl, sym, ap, subst, ◌∙◌, append_assoc}
use Rattle.fb_text.specs.Places.{Words, Item, word, line_end, text_end, Place, line_places, lines_places, items, BreaksAtWord, Grammar, IsFine, AllFine, IsFault, FirstFault}
use Rattle.fb_text.specs.Unread.{Line}
use Rattle.fb_text.proofs.LineItems.{items_append, same_place, split_append, whole_line}
use Rattle.setup_text.specs.declared.fault.SetupKind.{SetupKind}
use Rattle.setup_text.specs.Grammars.{UnfitText, unfit_word, unfit_end}

-- ---- one first fault

-- Two cuts of one list are the same, or one comes before the other.
cuts :
    {X : Type 0} (b c : List X) (x y : X) (u v : List X) → b ++ x ∷ u ≡ c ++ y ∷ v
    → ((b ≡ c) × (x ≡ y)) ⊎ (((more : List X) × (c ≡ b ++ x ∷ more)) ⊎ ((more : List X) × (b ≡ c ++ y ∷ more)))
cuts [] [] x y u v e = inl (refl, cc)
cuts {X} [] (z ∷ c) x y u v e = let same : x ≡ z = cc in inr (inl (c, ap (λ (w : X). w ∷ c) (sym same)))
cuts {X} (z ∷ b) [] x y u v e = let same : z ≡ y = cc in inr (inr (b, ap (λ (w : X). w ∷ b) same))
cuts {X} (z ∷ b) (w ∷ c) x y u v e =
    let same : z ≡ w = cc in
    let rest : b ++ x ∷ u ≡ c ++ y ∷ v = cc in
    elim (cuts b c x y u v rest) [
      | inl h ↦ inl (ap (λ (t : X). t ∷ b) same ∙ ap (λ (t : List X). w ∷ t) h.0, h.1)
      | inr h ↦ elim h [
        | inl s ↦ inr (inl (s.0, ap (λ (t : X). t ∷ c) (sym same) ∙ ap (λ (t : List X). z ∷ t) s.1))
        | inr s ↦ inr (inr (s.0, ap (λ (t : X). t ∷ b) same ∙ ap (λ (t : List X). w ∷ t) s.1))
      ]
    ]

-- One item after the same items has one kind of fault.
abbrev pub HasOneKind : {S : Type 0} → Grammar S SetupKind → Type 0
HasOneKind g =
    (before : List Item) (item : Item) (k j : SetupKind) → IsFault g before item k → IsFault g before item j → k ≡ j

module _ {S : Type 0} (g : Grammar S SetupKind) where
  not_fine : (before : List Item) (item : Item) (k : SetupKind) → IsFine g before item → IsFault g before item k → ⊥
  not_fine before item k fine (inl f) = f.0 fine.0
  not_fine before item k fine (inr f) = fine.1 k f.1

  fine_at : (b c more : List Place) (p : Place) → AllFine g (items c) → c ≡ b ++ p ∷ more → IsFine g (items b) p.item
  fine_at b c more p fine e = fine (items b) p.item (items more) (ap items e ∙ items_append b (p ∷ more))

  pub one_first :
      HasOneKind g → (ps : List Place) (l m : ℕ) (k j : SetupKind) → FirstFault g ps l k → FirstFault g ps m j
      → (l ≡ m) × (k ≡ j)
  one_first one ps l m k j f h = elim (cuts f.before h.before f.place h.place f.after h.after (sym f.parts ∙ h.parts)) [
    | inl s ↦ (
      f.on_line ∙ (ap (λ (p : Place). p.line) s.1 ∙ sym h.on_line),
      one (items f.before) f.place.item k j f.fault
          (subst (λ (b : List Place). IsFault g (items b) f.place.item j) (sym s.0)
          (subst (λ (p : Place). IsFault g (items h.before) p.item j) (sym s.1) h.fault)),
    )
    | inr s ↦ elim s [
      | inl t ↦ absurd
          (not_fine (items f.before) f.place.item k (fine_at f.before h.before t.0 f.place h.fine t.1) f.fault)
      | inr t ↦ absurd
          (not_fine (items h.before) h.place.item j (fine_at h.before f.before t.0 h.place f.fine t.1) h.fault)
    ]
  ]

  -- A fault in a text of the productions is that of a side condition.
  pub breaks_there :
      (ps : List Place) (l : ℕ) (k : SetupKind) (s : S) → g.Fits s → items ps ≡ g.spelled s → (f : FirstFault g ps l k)
      → g.Breaks (items f.before) f.place.item k
  breaks_there ps l k s fits e f = go f.fault
    where
      parts : g.spelled s ≡ (items f.before ++ f.place.item ∷ []) ++ items f.after
      parts =
          sym e
          ∙ (ap items f.parts
          ∙ (items_append f.before (f.place ∷ f.after)
          ∙ sym (append_assoc (items f.before) (f.place.item ∷ []) (items f.after))))

      go : IsFault g (items f.before) f.place.item k → g.Breaks (items f.before) f.place.item k
      go (inl h) = absurd (h.0 (s, items f.after, fits, parts))
      go (inr h) = h.1

  -- ---- one more line

  -- The places of lines, without the end of the text.
  abbrev front : List Line → List Place
  front [] = []
  front (l ∷ ls) = line_places l.number l.words [] ++ front ls

  front_parts : (ls more : List Line) (end : ℕ) → lines_places (ls ++ more) end ≡ front ls ++ lines_places more end
  front_parts [] more end = refl
  front_parts (l ∷ ls) more end =
      ap (line_places l.number l.words) (front_parts ls more end)
      ∙ (whole_line l.number l.words (front ls ++ lines_places more end)
      ∙ sym (append_assoc (line_places l.number l.words []) (front ls) (lines_places more end)))

  front_end : (ls : List Line) (end : ℕ) → lines_places ls end ≡ front ls ++ lines_places [] end
  front_end [] end = refl
  front_end (l ∷ ls) end =
      ap (line_places l.number l.words) (front_end ls end)
      ∙ (whole_line l.number l.words (front ls ++ lines_places [] end)
      ∙ sym (append_assoc (line_places l.number l.words []) (front ls) (lines_places [] end)))

  at_end :
      (b : List Place) (p : Place) (u : List Place) (end : ℕ) → lines_places [] end ≡ b ++ p ∷ u → p.item ≡ text_end
  at_end [] p u end e =
      let same : record { line = end; item = text_end } ≡ p = cc in sym (ap (λ (q : Place). q.item) same)
  at_end (q ∷ []) p u end e = absurd cc
  at_end (q ∷ r ∷ b) p u end e = absurd cc

  -- A first fault that is not at the end of the text is still the first one after one more line.
  pub fault_stays :
      (ls more : List Line) (end l : ℕ) (k : SetupKind) → (f : FirstFault g (lines_places ls end) l k)
      → (f.place.item ≡ text_end → ⊥) → FirstFault g (lines_places (ls ++ more) end) l k
  fault_stays ls more end l k f inside =
      elim
      (split_append (front ls) (lines_places [] end) f.before f.place f.after (sym (front_end ls end) ∙ f.parts)) [
        | inl s ↦ record {
          before = f.before;
          place = f.place;
          after = s.0 ++ lines_places more end;
          parts =
              front_parts ls more end
              ∙ (ap (λ (x : List Place). x ++ lines_places more end) s.1
              ∙ append_assoc f.before (f.place ∷ s.0) (lines_places more end));
          fine = f.fine;
          fault = f.fault;
          on_line = f.on_line;
        }
        | inr s ↦ absurd (inside (at_end s.front f.place f.after end s.rest))
      ]

-- A side condition that is judged at a word fails at no end.
pub breaks_word :
    (J : List Words → Words → List ℕ → SetupKind → Type 0) (before : List Item) (item : Item) (k : SetupKind)
    → BreaksAtWord J before item k → item ≡ text_end → ⊥
breaks_word J before item k (earlier, words, here, at, j) e =
    (let both : word here ≡ text_end = sym at.item_is ∙ e in cc)

-- ---- the kinds of faults at one place

-- A side condition that is judged at a word has one kind there, if it has one at the same words.
pub one_break :
    (J : List Words → Words → List ℕ → SetupKind → Type 0)
    → ((earlier : List Words) (words : Words) (here : List ℕ) (k j : SetupKind) → J earlier words here k
    → J earlier words here j → k ≡ j)
    → (before : List Item) (item : Item) (k j : SetupKind) → BreaksAtWord J before item k → BreaksAtWord J before item j
    → k ≡ j
one_break J one before item k j (earlier, words, here, at, h) (others, more, there, by, i) =
    let same = same_place earlier others words more (sym at.before_is ∙ by.before_is) in
    let both : word here ≡ word there = sym at.item_is ∙ by.item_is in
    let word_is : here ≡ there = cc in
    one earlier words here k j h
    (subst (λ (x : List Words). J x words here j) (sym same.0)
    (subst (λ (x : Words). J others x here j) (sym same.1)
    (subst (λ (x : List ℕ). J others more x j) (sym word_is) i)))

pub one_unfit :
    (before : List Item) (item : Item) (k j : SetupKind) → UnfitText before item k → UnfitText before item j → k ≡ j
one_unfit before text_end k j h i = h ∙ sym i
one_unfit before line_end k j h i =
    let same = same_place h.earlier i.earlier h.words i.words (sym h.before_is ∙ i.before_is) in
    h.kind_is ∙ (ap unfit_end same.1 ∙ sym i.kind_is)
one_unfit before (word w) k j h i =
    let same = same_place h.earlier i.earlier h.words i.words (sym h.before_is ∙ i.before_is) in
    h.kind_is ∙ (ap unfit_word same.1 ∙ sym i.kind_is)

module _ {S : Type 0} (g : Grammar S SetupKind) where
  -- The faults at one place are all of the form, or all of side conditions.
  pub one_kind :
      ((before : List Item) (item : Item) (k j : SetupKind) → g.Unfit before item k → g.Unfit before item j → k ≡ j)
      → ((before : List Item) (item : Item) (k j : SetupKind) → g.Breaks before item k → g.Breaks before item j → k ≡ j)
      → HasOneKind g
  one_kind unfit breaks before item k j (inl f) (inl h) = unfit before item k j f.1 h.1
  one_kind unfit breaks before item k j (inl f) (inr h) = absurd (f.0 h.0)
  one_kind unfit breaks before item k j (inr f) (inl h) = absurd (h.0 f.0)
  one_kind unfit breaks before item k j (inr f) (inr h) = breaks before item k j f.1 h.1
