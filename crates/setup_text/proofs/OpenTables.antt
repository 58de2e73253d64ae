-- The first fault of a table that is open in a text of several.
use Rattle.std.proofs.Common.{◌≡◌, ℕ, inl, inr, Bool, true, false, cond, ◌&&◌, List, [], ◌∷◌, ◌++◌, map, drop, Option, Some, None, Result, Ok, Err, refl, sym, ap, subst, ◌∙◌, append_assoc, arith}
use Rattle.std.specs.Prelude.{codes}
use Rattle.std.specs.Str.{bytes_eq}
use Rattle.std.specs.List.{AllByRecursion}
use Rattle.std.proofs.lemmas.List.{append-nil}
use Rattle.fb_text.specs.Places.{Words, Item, Place, word, text_end, lines_items, line_places, IsFault, BreaksAtWord, Grammar}
use Rattle.fb_text.proofs.LineItems.{from, item_at}
use Rattle.fb_text.proofs.LineLaws.{IsClosing, BeginsLine, HasNext, NoLine, FreeFront, FaultBehind, stops_in_line, unfit_fault, judged_fault}
use Rattle.moesi_state.specs.declared.State.{State}
use Rattle.moesi_state.specs.declared.State.TheVariants.{M, O, E, S, I}
use Rattle.class_words.specs.Words.{state_word}
use Rattle.class_relation.specs.Tables.{Table, empty_table}
use Rattle.table_text.specs.declared.fault.TableKind.{TableKind}
use Rattle.table_text.specs.declared.fault.TableKind.TheVariants as table_kinds
use Rattle.table_text.specs.Reading.{◌>>=◌, is_end, line_ends, cell_line, table_line}
use Rattle.table_text.specs.Spelling.{CellLine, local, answer, cell_words, HasAlternative, BreaksCell, entered, all_entered, table_of}
use Rattle.table_text.specs.Correct.{CanStand}
use Rattle.table_text.proofs.Alternatives.{is_word}
use Rattle.table_text.proofs.Bars.{FewBars, few_total}
use Rattle.table_text.proofs.Marks.{Marks, marks_push, marks_empty}
use Rattle.table_text.proofs.TableLaws.{HasAllCells, entered_whole, empty_whole}
use Rattle.table_text.proofs.Sides.{IsHard, cell_dead}
use Rattle.table_text.proofs.CellStops.{BeginsCell, WhyCell, IsNew, cell_stops}
use Rattle.table_text.proofs.FirstFaults.{free_front, new_row, few_row}
use Rattle.setup_text.specs.declared.fault.SetupKind.{SetupKind}
use Rattle.setup_text.specs.declared.fault.SetupKind.TheVariants.{UnknownWord}
use Rattle.setup_text.specs.Spelling.{end_row}
use Rattle.setup_text.specs.Grammars.{has_front, cell_front, unfit_word, unfit_end, kind_of, UnfitText}
use Rattle.setup_text.proofs.Follows.{InTable, cell, closes}

abbrev ended_by : Table → Result (Unit {0}) TableKind → Result (Bool × Table) TableKind
ended_by t x = x >>= λ _. Ok (true, t)

abbrev cells_by : Result Table TableKind → Result (Bool × Table) TableKind
cells_by x = x >>= λ cells. Ok (false, cells)

-- ---- the cells of a table that stands

abbrev rows : List CellLine → List Words
rows cells = [] ∷ map cell_words cells

marks_all :
    (t : Table) (done : List Words) (cells : List CellLine) → HasAllCells t → Marks t done
    → AllByRecursion HasAlternative cells → Marks (all_entered t cells) (done ++ map cell_words cells)
marks_all t done [] whole m some = subst (λ (x : List Words). Marks t x) (sym (append-nil done)) m
marks_all t done (c ∷ cells) whole m some =
    subst (λ (x : List Words). Marks (all_entered (entered t c) cells) x)
    (append_assoc done (cell_words c ∷ []) (map cell_words cells))
    (marks_all (entered t c) (done ++ cell_words c ∷ []) cells (entered_whole t c whole)
    (marks_push t done c whole m some.0) some.1)

pub marks_of :
    (name : List ℕ) (cells : List CellLine) → AllByRecursion HasAlternative cells
    → Marks (table_of name cells) (rows cells)
marks_of name cells some = marks_all (empty_table name) ([] ∷ []) cells (empty_whole name) (marks_empty name) some

-- the rest of the head line names no cell
with_head :
    (cells : List CellLine) (words : Words) (here : List ℕ) (k : TableKind)
    → BreaksCell (map cell_words cells) words here k → BreaksCell (rows cells) words here k
with_head cells words here k (inl ((s, one, has), e)) = inl ((s, one, inr has), e)
with_head cells words here k (inr h) = inr h

without_head :
    (cells : List CellLine) (words : Words) (here : List ℕ) (k : TableKind) → BreaksCell (rows cells) words here k
    → BreaksCell (map cell_words cells) words here k
without_head cells words here k (inl ((s, one, inl (more, h)), e)) = absurd cc
without_head cells words here k (inl ((s, one, inr has), e)) = inl ((s, one, has), e)
without_head cells words here k (inr h) = inr h

-- ---- what follows the words of a cell line

no_slot : (s : State) (ws : Words) → unfit_word (state_word s ∷ ws) ≡ UnknownWord
no_slot M ws = refl
no_slot O ws = refl
no_slot E ws = refl
no_slot S ws = refl
no_slot I ws = refl

cell_unknown : (front : Words) → BeginsCell front → unfit_word front ≡ UnknownWord
cell_unknown [] b = refl
cell_unknown (w ∷ front) (local s e alts, more, some, h) =
    let same : state_word s ≡ w = cc in ap (λ (x : List ℕ). unfit_word (x ∷ front)) (sym same) ∙ no_slot s front
cell_unknown (w ∷ front) (answer s e alts, more, some, h) =
    let same : state_word s ≡ w = cc in ap (λ (x : List ℕ). unfit_word (x ∷ front)) (sym same) ∙ no_slot s front

front_end : (front : Words) → has_front cell_front front ≡ true → (p : Words) × (front ≡ p ++ codes "=" ∷ [])
front_end [] h = absurd cc
front_end (a ∷ []) h = absurd cc
front_end (a ∷ b ∷ []) h = absurd cc
front_end (a ∷ b ∷ c ∷ []) h =
    (a ∷ b ∷ [], ap (λ (x : List ℕ). a ∷ b ∷ x ∷ []) (is_word c (codes "=") (left (bytes_eq c (codes "=")) h)))
  where
    left : (b : Bool) → (b && true) ≡ true → b ≡ true
    left true h = refl
    left false h = absurd cc
front_end (a ∷ b ∷ c ∷ d ∷ front) h = absurd (none (bytes_eq c (codes "=")) h)
  where
    none : (b : Bool) → (b && false) ≡ true → ⊥
    none true h = cc
    none false h = cc

unknown_end :
    (front : Words) → BeginsCell front → ((p : Words) → front ≡ p ++ codes "=" ∷ [] → ⊥) → unfit_end front ≡ UnknownWord
unknown_end front b none = go (has_front cell_front front) refl
  where
    go : (x : Bool) → has_front cell_front front ≡ x → unfit_end front ≡ UnknownWord
    go true h = let e = front_end front h in absurd (none e.0 e.1)
    go false h = rw h (cell_unknown front b)

module _ {T : Type 0} (g : Grammar T SetupKind) (lines : T → List Words)
    (spelled : (r : T) → g.spelled r ≡ lines_items (lines r) ++ text_end ∷ [])
    (J : List Words → Words → List ℕ → SetupKind → Type 0)
    (judged : (x : List Item) (i : Item) (k : SetupKind) → BreaksAtWord J x i k → g.Breaks x i k)
    (breaks : (x : List Item) (i : Item) (k : SetupKind) → g.Breaks x i k → BreaksAtWord J x i k)
    (unfit : (x : List Item) (i : Item) (k : SetupKind) → UnfitText x i k → g.Unfit x i k)
    (name : List ℕ) (cells : List CellLine) (done : List Words) (some : AllByRecursion HasAlternative cells)
    (inside : (r : T) (l : Words) (others : List Words) → g.Fits r → lines r ≡ done ++ l ∷ others → InTable l)
    (next_cell : (c : CellLine) → HasAlternative c → HasNext g lines done (cell_words c))
    (next_end : HasNext g lines done end_row)
    (broken : (words : Words) (here : List ℕ) (k : SetupKind) → J done words here k
    → (tk : TableKind) × BreaksCell (map cell_words cells) words here tk × (k ≡ kind_of tk))
    (breaking : (words : Words) (here : List ℕ) (tk : TableKind) → BreaksCell (map cell_words cells) words here tk
    → J done words here (kind_of tk)) where
  closed : IsClosing (text_end ∷ [])
  closed = inr refl

  free : (front : Words) → FewBars 16 front → IsNew (rows cells) front → FreeFront J done front
  free front few new p w q e k j =
      let b = broken p w k j in free_front (rows cells) front few new p w q e b.0 (with_head cells p w b.0 b.1)

  -- a cell line that was read
  pub cell_free : (c : CellLine) → CanStand (table_of name cells) c → FreeFront J done (cell_words c)
  cell_free c can =
      free (cell_words c) (few_row (table_of name cells) c can)
      (new_row (table_of name cells) (rows cells) c (marks_of name cells some) can)

  no_new : IsNew (rows cells) end_row
  no_new a b more q has = cc

  pub end_free : FreeFront J done end_row
  end_free = free end_row (few_total 16 end_row (omega arith)) no_new

  at_place :
      (front : Words) (at : Option (List ℕ)) (k : SetupKind) → NoLine g lines done front at
      → UnfitText (lines_items done ++ map word front) (item_at at) k
      → IsFault g (lines_items done ++ map word front) (item_at at) k
  at_place front at k none h =
      unfit_fault g lines (text_end ∷ []) closed spelled J judged breaks done front at k none
      (unfit (lines_items done ++ map word front) (item_at at) k h)

  begins : (front : Words) → BeginsCell front → BeginsLine g lines done front
  begins front (c, more, some, e) =
      let n = next_cell c some in (n.0, more, n.1, n.2, n.3 ∙ ap (λ (x : Words). done ++ x ∷ n.1) e)

  -- an `end` line with more words
  end_left :
      (n : ℕ) (l : Words) (rest : List Place) (tk : TableKind) → is_end l ≡ true → line_ends (drop 1 l) ≡ Err tk
      → FaultBehind g done (line_places n l rest) n (kind_of tk)
  end_left n [] rest tk h e = absurd cc
  end_left n (v ∷ []) rest tk h e = absurd cc
  end_left n (v ∷ w ∷ ws) rest tk h e =
      let k : table_kinds.UnknownWord ≡ tk = cc in
      let n_end = next_end in
      stops_in_line g lines (text_end ∷ []) closed spelled J judged breaks done n (v ∷ w ∷ ws) rest end_row (Some w) ws
      (kind_of tk) (ap (λ (u : List ℕ). u ∷ w ∷ ws) (is_word v (codes "end") h))
      (n_end.0, [], n_end.1, n_end.2, n_end.3) end_free
      (at_place end_row (Some w) (kind_of tk) none
      (record { earlier = done; words = end_row; before_is = refl; kind_is = sym (ap kind_of k) }))
    where
      none : NoLine g lines done end_row (Some w)
      none r more others fits e = go (inside r (end_row ++ w ∷ more) others fits e)
        where
          go : InTable (end_row ++ w ∷ more) → ⊥
          go (cell c some h) = no_end_cell c h
            where
              no_end_cell : (c : CellLine) → codes "end" ∷ w ∷ more ≡ cell_words c → ⊥
              no_end_cell (local M e alts) h = cc
              no_end_cell (local O e alts) h = cc
              no_end_cell (local E e alts) h = cc
              no_end_cell (local S e alts) h = cc
              no_end_cell (local I e alts) h = cc
              no_end_cell (answer M e alts) h = cc
              no_end_cell (answer O e alts) h = cc
              no_end_cell (answer E e alts) h = cc
              no_end_cell (answer S e alts) h = cc
              no_end_cell (answer I e alts) h = cc
          go (closes h) = cc

  -- a cell line that was refused
  cell_left :
      (n : ℕ) (l : Words) (rest : List Place) (tk : TableKind) → is_end l ≡ false
      → cell_line (table_of name cells) l ≡ Err tk → FaultBehind g done (line_places n l rest) n (kind_of tk)
  cell_left n l rest tk no_end e =
      let s = cell_stops (table_of name cells) (rows cells) (marks_of name cells some) l tk e in
      stops_in_line g lines (text_end ∷ []) closed spelled J judged breaks done n l rest s.front s.at s.rest
      (kind_of tk) s.parts (begins s.front s.begins) (free s.front s.why.few s.why.new)
      (fault s.front s.at s.rest s.parts s.begins (λ more. s.local more) s.why.why)
    where
      no_end_front :
          (front : Words) (at : Option (List ℕ)) (r : Words) → l ≡ front ++ from at r → (more : Words)
          → front ++ from at more ≡ end_row → ⊥
      no_end_front [] None r p more h = cc
      no_end_front [] (Some w) r p more h =
          let same : w ≡ codes "end" = cc in
          let is : is_end l ≡ true = ap is_end p ∙ ap (λ (v : List ℕ). bytes_eq v (codes "end")) same in
          (let both : true ≡ false = sym is ∙ no_end in cc)
      no_end_front (v ∷ front) at r p more h =
          let same : v ≡ codes "end" = cc in
          let is : is_end l ≡ true = ap is_end p ∙ ap (λ (u : List ℕ). bytes_eq u (codes "end")) same in
          (let both : true ≡ false = sym is ∙ no_end in cc)

      dead :
          (front : Words) (at : Option (List ℕ)) (r : Words) → l ≡ front ++ from at r
          → ((more : Words) → cell_line (table_of name cells) (front ++ from at more) ≡ Err tk) → IsHard tk
          → NoLine g lines done front at
      dead front at r p stays hard t more others fits e = go (inside t (front ++ from at more) others fits e)
        where
          go : InTable (front ++ from at more) → ⊥
          go (cell c some h) = cell_dead (table_of name cells) front at tk stays hard c more some (sym h)
          go (closes h) = no_end_front front at r p more h

      judge :
          (front : Words) (w : List ℕ) → BeginsCell (front ++ w ∷ []) → BreaksCell (rows cells) front w tk
          → IsFault g (lines_items done ++ map word front) (word w) (kind_of tk)
      judge front w b j =
          judged_fault g lines (text_end ∷ []) closed spelled J judged breaks done front w (kind_of tk)
          (begins (front ++ w ∷ []) b) (breaking front w tk (without_head cells front w tk j))

      fault :
          (front : Words) (at : Option (List ℕ)) (r : Words) → l ≡ front ++ from at r → BeginsCell front
          → ((more : Words) → cell_line (table_of name cells) (front ++ from at more) ≡ Err tk)
          → WhyCell (rows cells) front at tk → IsFault g (lines_items done ++ map word front) (item_at at) (kind_of tk)
      fault front None r p b stays (inl (k, x, y, e)) =
          at_place front None (kind_of tk) (dead front None r p stays (subst IsHard (sym k) tt))
          (record { earlier = done; words = front; before_is = refl; kind_is = ap kind_of k ∙ ap unfit_end (sym e) })
      fault front None r p b stays (inr (k, none)) =
          at_place front None (kind_of tk) (dead front None r p stays (subst IsHard (sym k) tt))
          (record {
            earlier = done;
            words = front;
            before_is = refl;
            kind_is = ap kind_of k ∙ sym (unknown_end front b none);
          })
      fault front (Some w) r p b stays (inl k) =
          at_place front (Some w) (kind_of tk) (dead front (Some w) r p stays (subst IsHard (sym k) tt))
          (record {
            earlier = done;
            words = front;
            before_is = refl;
            kind_is = ap kind_of k ∙ sym (cell_unknown front b);
          })
      fault front (Some w) r p b stays (inr (inl (k, twice, c))) = judge front w c (inl (twice, k))
      fault front (Some w) r p b stays (inr (inr (k, count, c))) = judge front w c (inr (count, k))

  -- A line of an open table that was refused has the first place at fault.
  pub line_stops :
      (n : ℕ) (l : Words) (rest : List Place) (tk : TableKind) → table_line (table_of name cells) l ≡ Err tk
      → FaultBehind g done (line_places n l rest) n (kind_of tk)
  unfolding table_line
  line_stops n l rest tk e = go (is_end l) refl e
    where
      at_end :
          (x : Result (Unit {0}) TableKind) → is_end l ≡ true → line_ends (drop 1 l) ≡ x
          → ended_by (table_of name cells) x ≡ Err tk → FaultBehind g done (line_places n l rest) n (kind_of tk)
      at_end (Ok u) h k e = absurd cc
      at_end (Err j) h k e = let same : j ≡ tk = cc in end_left n l rest tk h (k ∙ ap (λ (x : TableKind). Err x) same)

      at_cell :
          (x : Result Table TableKind) → is_end l ≡ false → cell_line (table_of name cells) l ≡ x → cells_by x ≡ Err tk
          → FaultBehind g done (line_places n l rest) n (kind_of tk)
      at_cell (Ok u) h k e = absurd cc
      at_cell (Err j) h k e = let same : j ≡ tk = cc in cell_left n l rest tk h (k ∙ ap (λ (x : TableKind). Err x) same)

      go :
          (b : Bool) → is_end l ≡ b
          → cond b (ended_by (table_of name cells) (line_ends (drop 1 l)))
          (cells_by (cell_line (table_of name cells) l)) ≡ Err tk
          → FaultBehind g done (line_places n l rest) n (kind_of tk)
      go true h e = at_end (line_ends (drop 1 l)) h refl e
      go false h e = at_cell (cell_line (table_of name cells) l) h refl e
