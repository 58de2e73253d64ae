-- The first fault of the head line of a table.
use Rattle.std.proofs.Common.{◌≡◌, ℕ, suc, ◌<◌, ◌≤◌, inr, Bool, true, false, cond, ltb, List, [], ◌∷◌, ◌++◌, map, length, Option, Some, None, Result, Ok, Err, refl, sym, ap, subst, ◌∙◌, arith, Contains}
use Rattle.std.specs.Prelude.{codes}
use Rattle.std.specs.Str.{bytes_eq}
use Rattle.std.proofs.lemmas.Bool.{ltb-true, ltb-false}
use Rattle.std.proofs.lemmas.List.{length-map, get_or-map}
use Rattle.fb_text.specs.Places.{Words, Item, Place, word, text_end, lines_items, line_places, IsFault, BreaksAtWord, Grammar}
use Rattle.fb_text.proofs.LineItems.{item_at}
use Rattle.fb_text.proofs.LineLaws.{IsClosing, BeginsLine, HasNext, NoLine, FreeFront, FaultBehind, stops_in_line, unfit_fault, judged_fault}
use Rattle.class_relation.specs.Names.{is_name}
use Rattle.class_relation.specs.Tables.{Table}
use Rattle.table_text.specs.Reading.{◌>>=◌}
use Rattle.setup_text.specs.declared.fault.LimitOf.TheVariants.{Tables}
use Rattle.setup_text.specs.declared.fault.SetupKind.{SetupKind}
use Rattle.setup_text.specs.declared.fault.SetupKind.TheVariants.{UnknownWord, TwiceName, Limit}
use Rattle.setup_text.specs.Spelling.{head_row}
use Rattle.setup_text.specs.Values.{names_of}
use Rattle.setup_text.specs.Grammars.{UnfitText, JudgedTableWord, JudgedName}
use Rattle.setup_text.specs.Drafts.{named, found_name}
use Rattle.setup_text.specs.Reading.{name_at, new_name, line_ends, head_name, head_line}
use Rattle.setup_text.proofs.Naming.{found_new}
use Rattle.setup_text.proofs.LineWords.{is_word, name_read}

-- ---- names among tables

pub found_contains :
    (w : List ℕ) (ts : List Table) (p : ℕ × Bool) → found_name (map named ts) w ≡ Some p → Contains (names_of ts) w
found_contains w [] p e = absurd cc
found_contains w (t ∷ ts) p e =
    go (bytes_eq w t.name) refl (found_name (map named ts) w) refl (λ q h. found_contains w ts q h)
  where
    go :
        (b : Bool) → bytes_eq w t.name ≡ b → (r : Option (ℕ × Bool)) → found_name (map named ts) w ≡ r
        → ((q : ℕ × Bool) → found_name (map named ts) w ≡ Some q → Contains (names_of ts) w)
        → Contains (names_of (t ∷ ts)) w
    go true h r k ih = (0, omega arith, sym (is_word w t.name h))
    go false h None k ih = let both : ◌≡◌ {A = Option (ℕ × Bool)} None (Some p) = rw (h, k) at e in absurd cc
    go false h (Some q) k ih = let c = ih q k in (suc c.0, omega (arith, c.1), c.2)

pub none_contains : (w : List ℕ) (ts : List Table) → found_name (map named ts) w ≡ None → Contains (names_of ts) w → ⊥
none_contains w [] e (k, low, h) = absurd (omega arith)
none_contains w (t ∷ ts) e (k, low, h) =
    let at : k < length (t ∷ ts) = omega (arith, low, length-map (t ∷ ts) (λ (t : Table). t.name)) in
    let name = get_or-map (λ (t : Table). t.name) (t ∷ ts) k t w at in
    found_new w (t ∷ ts) e k t at (sym name ∙ h)

abbrev named_by : Bool → List ℕ → Words → Result (List ℕ × Words) SetupKind
named_by b w l = cond b (Ok (w, l)) (Err UnknownWord)

module _ {T : Type 0} (g : Grammar T SetupKind) (lines : T → List Words)
    (spelled : (r : T) → g.spelled r ≡ lines_items (lines r) ++ text_end ∷ [])
    (J : List Words → Words → List ℕ → SetupKind → Type 0)
    (judged : (x : List Item) (i : Item) (k : SetupKind) → BreaksAtWord J x i k → g.Breaks x i k)
    (breaks : (x : List Item) (i : Item) (k : SetupKind) → g.Breaks x i k → BreaksAtWord J x i k)
    (unfit : (x : List Item) (i : Item) (k : SetupKind) → UnfitText x i k → g.Unfit x i k)
    (tables : List Table) (most : length tables ≤ 16) (done : List Words)
    (head_only : (r : T) (l : Words) (others : List Words) → g.Fits r → lines r ≡ done ++ (codes "table" ∷ l) ∷ others
    → (name : List ℕ) × (is_name name ≡ true) × (l ≡ name ∷ []))
    (next_head : (name : List ℕ) → is_name name ≡ true → HasNext g lines done (head_row name))
    (first_broken : (k : SetupKind) → J done [] (codes "table") k → JudgedTableWord tables (codes "table") k)
    (first_breaking : (k : SetupKind) → JudgedTableWord tables (codes "table") k → J done [] (codes "table") k)
    (name_broken : (w : List ℕ) (k : SetupKind) → J done (codes "table" ∷ []) w k → JudgedName tables w k)
    (name_breaking : (w : List ℕ) (k : SetupKind) → JudgedName tables w k → J done (codes "table" ∷ []) w k) where
  closed : IsClosing (text_end ∷ [])
  closed = inr refl

  -- words that are free of side conditions
  free_none : FreeFront J done []
  free_none [] w q e k j = cc
  free_none (x ∷ p) w q e k j = cc

  free_word : length tables < 16 → FreeFront J done (codes "table" ∷ [])
  free_word few [] w q e k j =
      let same : codes "table" ≡ w = cc in
      let h = first_broken k (subst (λ (x : List ℕ). J done [] x k) (sym same) j) in
      omega (arith, h.1)
  free_word few (x ∷ []) w q e k j = cc
  free_word few (x ∷ y ∷ p) w q e k j = cc

  pub head_free :
      (name : List ℕ) → length tables < 16 → found_name (map named tables) name ≡ None
      → FreeFront J done (head_row name)
  head_free name few new [] w q e k j =
      let same : codes "table" ≡ w = cc in
      let h = first_broken k (subst (λ (x : List ℕ). J done [] x k) (sym same) j) in
      omega (arith, h.1)
  head_free name few new (x ∷ []) w q e k j =
      let same : name ≡ w = cc in
      let first : codes "table" ≡ x = cc in
      let h = name_broken w k (subst (λ (y : List ℕ). J done (y ∷ []) w k) (sym first) j) in
      none_contains name tables new (subst (λ (y : List ℕ). Contains (names_of tables) y) (sym same) h.0)
  head_free name few new (x ∷ y ∷ []) w q e k j = cc
  head_free name few new (x ∷ y ∷ z ∷ p) w q e k j = cc

  a_name : is_name (codes "a") ≡ true
  a_name = refl

  begins :
      (name : List ℕ) (front more : Words) → is_name name ≡ true → head_row name ≡ front ++ more
      → BeginsLine g lines done front
  begins name front more is e =
      let n = next_head name is in (n.0, more, n.1, n.2, n.3 ∙ ap (λ (x : Words). done ++ x ∷ n.1) e)

  at_place :
      (front : Words) (at : Option (List ℕ)) (k : SetupKind) → NoLine g lines done front at
      → UnfitText (lines_items done ++ map word front) (item_at at) k
      → IsFault g (lines_items done ++ map word front) (item_at at) k
  at_place front at k none h =
      unfit_fault g lines (text_end ∷ []) closed spelled J judged breaks done front at k none
      (unfit (lines_items done ++ map word front) (item_at at) k h)

  -- the name is missing, or is not a name
  no_name :
      (n : ℕ) (l : Words) (rest : List Place) (k : SetupKind) → length tables < 16 → name_at l ≡ Err k
      → FaultBehind g done (line_places n (codes "table" ∷ l) rest) n k
  no_name n [] rest k few e =
      let same : UnknownWord ≡ k = cc in
      stops_in_line g lines (text_end ∷ []) closed spelled J judged breaks done n (codes "table" ∷ []) rest
      (codes "table" ∷ []) None [] k refl (begins (codes "a") (codes "table" ∷ []) (codes "a" ∷ []) a_name refl)
      (free_word few)
      (at_place (codes "table" ∷ []) None k none
      (record { earlier = done; words = codes "table" ∷ []; before_is = refl; kind_is = sym same }))
    where
      none : NoLine g lines done (codes "table" ∷ []) None
      none r more others fits e = let h = head_only r [] others fits e in let both : [] ≡ h.0 ∷ [] = h.2 in cc
  no_name n (w ∷ l) rest k few e = go (is_name w) refl e
    where
      go :
          (b : Bool) → is_name w ≡ b → named_by b w l ≡ Err k
          → FaultBehind g done (line_places n (codes "table" ∷ w ∷ l) rest) n k
      go true h e = absurd cc
      go false h e =
          let same : UnknownWord ≡ k = cc in
          stops_in_line g lines (text_end ∷ []) closed spelled J judged breaks done n (codes "table" ∷ w ∷ l) rest
          (codes "table" ∷ []) (Some w) l k refl
          (begins (codes "a") (codes "table" ∷ []) (codes "a" ∷ []) a_name refl) (free_word few)
          (at_place (codes "table" ∷ []) (Some w) k none
          (record { earlier = done; words = codes "table" ∷ []; before_is = refl; kind_is = sym same }))
        where
          none : NoLine g lines done (codes "table" ∷ []) (Some w)
          none r more others fits e =
              let f = head_only r (w ∷ more) others fits e in
              let both : w ∷ more ≡ f.0 ∷ [] = f.2 in
              let same : w ≡ f.0 = cc in
              let is : is_name w ≡ true = ap is_name same ∙ f.1 in
              (let clash : true ≡ false = sym is ∙ h in cc)

  -- the name is that of an earlier table
  twice :
      (n : ℕ) (w : List ℕ) (l : Words) (rest : List Place) (p : ℕ × Bool) (k : SetupKind) → length tables < 16
      → is_name w ≡ true → found_name (map named tables) w ≡ Some p → TwiceName ≡ k
      → FaultBehind g done (line_places n (codes "table" ∷ w ∷ l) rest) n k
  twice n w l rest p k few is found same =
      stops_in_line g lines (text_end ∷ []) closed spelled J judged breaks done n (codes "table" ∷ w ∷ l) rest
      (codes "table" ∷ []) (Some w) l k refl (begins (codes "a") (codes "table" ∷ []) (codes "a" ∷ []) a_name refl)
      (free_word few)
      (judged_fault g lines (text_end ∷ []) closed spelled J judged breaks done (codes "table" ∷ []) w k
      (begins w (codes "table" ∷ w ∷ []) [] is refl) (name_breaking w k (found_contains w tables p found, sym same)))

  -- a word after the name
  left_over :
      (n : ℕ) (name w : List ℕ) (l : Words) (rest : List Place) (k : SetupKind) → length tables < 16
      → is_name name ≡ true → found_name (map named tables) name ≡ None → UnknownWord ≡ k
      → FaultBehind g done (line_places n (codes "table" ∷ name ∷ w ∷ l) rest) n k
  left_over n name w l rest k few is new same =
      stops_in_line g lines (text_end ∷ []) closed spelled J judged breaks done n (codes "table" ∷ name ∷ w ∷ l) rest
      (head_row name) (Some w) l k refl (begins name (head_row name) [] is refl) (head_free name few new)
      (at_place (head_row name) (Some w) k none
      (record { earlier = done; words = head_row name; before_is = refl; kind_is = sym same }))
    where
      none : NoLine g lines done (head_row name) (Some w)
      none r more others fits e =
          let h = head_only r (name ∷ w ∷ more) others fits e in let both : name ∷ w ∷ more ≡ h.0 ∷ [] = h.2 in cc

  -- Where a head line is refused, after the word `table`.
  pub head_stops :
      (n : ℕ) (l : Words) (rest : List Place) (k : SetupKind) → head_line tables l ≡ Err k
      → FaultBehind g done (line_places n (codes "table" ∷ l) rest) n k
  unfolding head_name
  head_stops n l rest k e = room (ltb (length tables) 16) refl e
    where
      fresh :
          (w : List ℕ) (us : Words) → length tables < 16 → is_name w ≡ true → (o : Option (ℕ × Bool))
          → found_name (map named tables) w ≡ o
          → (new_name tables (w, us) >>= λ n. line_ends n.1 >>= λ _. Ok n.0) ≡ Err k
          → FaultBehind g done (line_places n (codes "table" ∷ w ∷ us) rest) n k
      fresh w us few is (Some p) h e =
          (let both : ◌≡◌ {A = Result (List ℕ) SetupKind} (Err TwiceName) (Err k) = rw h at e in
          twice n w us rest p k few is h cc)
      fresh w us few is None h e = ends us (rw h at e)
        where
          ends :
              (us : Words) → (line_ends us >>= λ _. Ok w) ≡ Err k
              → FaultBehind g done (line_places n (codes "table" ∷ w ∷ us) rest) n k
          ends [] e = absurd cc
          ends (v ∷ us) e = left_over n w v us rest k few is h cc

      name :
          (x : Result (List ℕ × Words) SetupKind) → length tables < 16 → name_at l ≡ x
          → ((x >>= new_name tables) >>= λ n. line_ends n.1 >>= λ _. Ok n.0) ≡ Err k
          → FaultBehind g done (line_places n (codes "table" ∷ l) rest) n k
      name (Err j) few h e = let same : j ≡ k = cc in no_name n l rest k few (h ∙ ap (λ (x : SetupKind). Err x) same)
      name (Ok (w, us)) few h e =
          let r = name_read l (w, us) h in
          subst (λ (x : Words). FaultBehind g done (line_places n (codes "table" ∷ x) rest) n k) (sym r.0)
          (fresh w us few r.1 (found_name (map named tables) w) refl e)

      room :
          (b : Bool) → ltb (length tables) 16 ≡ b
          → (cond b (name_at l >>= new_name tables) (Err (Limit Tables 17)) >>= λ n. line_ends n.1 >>= λ _. Ok n.0)
          ≡ Err k → FaultBehind g done (line_places n (codes "table" ∷ l) rest) n k
      room true h e = name (name_at l) (ltb-true (length tables) 16 h) refl e
      room false h e = full h cc
        where
          full :
              ltb (length tables) 16 ≡ false → Limit Tables 17 ≡ k
              → FaultBehind g done (line_places n (codes "table" ∷ l) rest) n k
          full h same =
              let least = ltb-false (length tables) 16 h in
              stops_in_line g lines (text_end ∷ []) closed spelled J judged breaks done n (codes "table" ∷ l) rest []
              (Some (codes "table")) l k refl (begins (codes "a") [] (head_row (codes "a")) a_name refl) free_none
              (judged_fault g lines (text_end ∷ []) closed spelled J judged breaks done [] (codes "table") k
              (begins (codes "a") (codes "table" ∷ []) (codes "a" ∷ []) a_name refl)
              (first_breaking k (refl, omega arith, sym same)))
