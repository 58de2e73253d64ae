-- A refusal is at the first place at fault, and has its kind.
use Rattle.std.proofs.Common.{◌≡◌, ℕ, ◌<◌, ◌⊎◌, inl, inr, Bool, true, false, cond, List, [], ◌∷◌, ◌++◌, map, drop, Option, Some, None, Result, Ok, Err, refl, sym, ap, subst, ◌∙◌, append_assoc, arith}
use Rattle.std.specs.Prelude.{codes}
use Rattle.std.specs.Str.{bytes_eq}
use Rattle.std.specs.List.{AllByRecursion}
use Rattle.std.proofs.lemmas.List.{append-nil, map-append}
use Rattle.fb_text.specs.Unread.{Unread, Line}
use Rattle.fb_text.specs.Places.{Words, Item, Place, word, text_end, lines_items, line_places, lines_places, places, IsFault, FirstFault, BreaksAtWord}
use Rattle.fb_text.proofs.LineItems.{words_append, last_word, from, item_at}
use Rattle.fb_text.proofs.LineLaws.{IsClosing, BeginsLine, HasNext, NoLine, FreeFront, FaultBehind, first_fault, stops_in_line, behind_line, text_stops, unfit_fault, judged_fault}
use Rattle.moesi_state.specs.declared.State.{State}
use Rattle.moesi_state.specs.declared.State.TheVariants.{M, O, E, S, I}
use Rattle.class_relation.specs.Tables.{Table, empty_table}
use Rattle.table_text.specs.declared.fault.TableKind.{TableKind}
use Rattle.table_text.specs.declared.fault.TableKind.TheVariants.{UnknownWord, NoEnd}
use Rattle.class_words.specs.Words.{state_word, local_event_word, bus_event_word}
use Rattle.table_text.specs.Reading.{◌>>=◌, Fault, on_line, line_ends, is_end, table_line, table_lines, table_at, cell_line}
use Rattle.table_text.specs.Spelling.{bars, CellLine, local, answer, cell_words, local_words, snoop_words, HasLine, HasAlternative, BreaksCell, EndsWithEquals, UnfitTable, table_rows, table_grammar, entered}
use Rattle.table_text.specs.Correct.{CanStand}
use Rattle.table_text.proofs.Alternatives.{is_word}
use Rattle.table_text.proofs.Bars.{FewBars, few_total, alternatives_bars, local_bars, snoop_bars, state_no_bar, local_event_no_bar, bus_event_no_bar}
use Rattle.table_text.proofs.Marks.{Marks, marks_push, marks_empty}
use Rattle.table_text.proofs.TableLaws.{HasAllCells, cell_line_takes, entered_whole, empty_whole}
use Rattle.table_text.proofs.Sides.{IsHard, cell_dead}
use Rattle.table_text.proofs.CellStops.{BeginsCell, WhyCell, IsNew, cell_stops}

-- ---- the language of tables as a language of lines

closed : IsClosing []
closed = inl refl

spelled : (cells : List CellLine) → table_grammar.spelled cells ≡ lines_items (table_rows cells) ++ []
spelled cells = sym (append-nil (lines_items (table_rows cells)))

-- the rest of the head line, and cell lines
abbrev pub rows : List CellLine → List Words
rows cells = [] ∷ map cell_words cells

abbrev end_row : Words
end_row = codes "end" ∷ []

rows_push : (done : List CellLine) (c : CellLine) → rows (done ++ c ∷ []) ≡ rows done ++ cell_words c ∷ []
rows_push done c = ap (λ (v : List Words). [] ∷ v) (map-append cell_words done (c ∷ []))

rows_more :
    (done : List CellLine) (c : CellLine) → table_rows (done ++ c ∷ []) ≡ rows done ++ cell_words c ∷ end_row ∷ []
rows_more done c =
    ap (λ (v : List Words). v ++ end_row ∷ []) (rows_push done c)
    ∙ append_assoc (rows done) (cell_words c ∷ []) (end_row ∷ [])

all_push :
    (done : List CellLine) (c : CellLine) → AllByRecursion HasAlternative done → HasAlternative c
    → AllByRecursion HasAlternative (done ++ c ∷ [])
all_push [] c h some = (some, tt)
all_push (d ∷ done) c h some = (h.0, all_push done c h.1 some)

not_end_line : (c : CellLine) → cell_words c ≡ end_row → ⊥
not_end_line (local s e alts) h = absurd cc
not_end_line (answer s e alts) h = absurd cc

-- the line after these is a cell line or the `end` line
abbrev IsRow : Words → Type 0
IsRow l = ((c : CellLine) × HasAlternative c × (cell_words c ≡ l)) ⊎ (end_row ≡ l)

row_behind :
    (done cells : List CellLine) (l : Words) (others : List Words) → AllByRecursion HasAlternative cells
    → map cell_words cells ++ end_row ∷ [] ≡ map cell_words done ++ l ∷ others → IsRow l
row_behind [] [] l others all e = inr cc
row_behind [] (c ∷ cells) l others all e = inl (c, all.0, cc)
row_behind (d ∷ done) [] l others all e = absurd (let same : end_row ≡ cell_words d = cc in not_end_line d (sym same))
row_behind (d ∷ done) (c ∷ cells) l others all e =
    let rest : map cell_words cells ++ end_row ∷ [] ≡ map cell_words done ++ l ∷ others = cc in
    row_behind done cells l others all.1 rest

no_row :
    (done : List CellLine) (front : Words) (at : Option (List ℕ))
    → ((c : CellLine) (more : Words) → HasAlternative c → cell_words c ≡ front ++ from at more → ⊥)
    → ((more : Words) → end_row ≡ front ++ from at more → ⊥) → NoLine table_grammar table_rows (rows done) front at
no_row done front at no_cell no_end cells more others all e =
    let rest : map cell_words cells ++ end_row ∷ [] ≡ map cell_words done ++ (front ++ from at more) ∷ others = cc in
    go (row_behind done cells (front ++ from at more) others all rest)
  where
    go : IsRow (front ++ from at more) → ⊥
    go (inl (c, some, h)) = no_cell c more some h
    go (inr h) = no_end more h

begins_row :
    (done : List CellLine) (front : Words) → AllByRecursion HasAlternative done → BeginsCell front
    → BeginsLine table_grammar table_rows (rows done) front
begins_row done front all (c, more, some, e) = (
  done ++ c ∷ [],
  more,
  end_row ∷ [],
  all_push done c all some,
  rows_more done c ∙ ap (λ (v : Words). rows done ++ v ∷ end_row ∷ []) e,
)

has_row :
    (done : List CellLine) (c : CellLine) → AllByRecursion HasAlternative done → HasAlternative c
    → HasNext table_grammar table_rows (rows done) (cell_words c)
has_row done c all some = (done ++ c ∷ [], end_row ∷ [], all_push done c all some, rows_more done c)

-- ---- side conditions

pub free_front :
    (done : List Words) (front : Words) → FewBars 16 front → IsNew done front → FreeFront BreaksCell done front
free_front done front few new p w q e k (inl ((s, one, has), _)) =
    new s w q (e ∙ ap (λ (v : Words). v ++ w ∷ q) one) has
free_front done front few new p w q e k (inr (count, _)) = let h : bars p < 16 = few p w q e in omega arith

-- a cell line that was read fails no side condition
pub new_row : (t : Table) (done : List Words) (c : CellLine) → Marks t done → CanStand t c → IsNew done (cell_words c)
new_row t done (local s e alts) m can v w more h has =
    let first : v ≡ state_word s = cc in
    let second : w ≡ local_event_word e = cc in
    m.local_free s e can.0 (subst (λ (x : List ℕ). HasLine done x (local_event_word e)) first
    (subst (λ (x : List ℕ). HasLine done v x) second has))
new_row t done (answer s e alts) m can v w more h has =
    let first : v ≡ state_word s = cc in
    let second : w ≡ bus_event_word e = cc in
    m.snoop_free s e can.0 (subst (λ (x : List ℕ). HasLine done x (bus_event_word e)) first
    (subst (λ (x : List ℕ). HasLine done v x) second has))

pub few_row : (t : Table) (c : CellLine) → CanStand t c → FewBars 16 (cell_words c)
few_row t (local s e alts) can =
    few_total 16 (cell_words (local s e alts))
    (rw (state_no_bar s, local_event_no_bar e)
    (let h = alternatives_bars local_words local_bars alts can.1 in let few = can.2 in omega arith))
few_row t (answer s e alts) can =
    few_total 16 (cell_words (answer s e alts))
    (rw (state_no_bar s, bus_event_no_bar e)
    (let h = alternatives_bars snoop_words snoop_bars alts can.1 in let few = can.2 in omega arith))

-- ---- the kinds of the other faults

no_last_equals :
    (done : List Words) (front : Words) → ((p : Words) → front ≡ p ++ codes "=" ∷ [] → ⊥)
    → EndsWithEquals (lines_items done ++ map word front) → ⊥
no_last_equals done front no_equals (xs, e) =
    let last = last_word done front xs (codes "=") e in no_equals last.0 last.1

last_equals :
    (done : List Words) (front p : Words) → front ≡ p ++ codes "=" ∷ []
    → EndsWithEquals (lines_items done ++ map word front)
last_equals done front p e = (
  lines_items done ++ map word p,
  ap (λ (v : Words). lines_items done ++ map word v) e
      ∙ (ap (λ (v : List Item). lines_items done ++ v) (words_append p (codes "=" ∷ []))
      ∙ sym (append_assoc (lines_items done) (map word p) (word (codes "=") ∷ []))),
)

abbrev given : (x : List Item) (i : Item) (k : TableKind) → BreaksAtWord BreaksCell x i k → table_grammar.Breaks x i k
given x i k b = b

-- why a cell line was refused is the fault at that place
cell_fault :
    (done : List CellLine) (t : Table) (ws front : Words) (at : Option (List ℕ)) (kind : TableKind)
    → AllByRecursion HasAlternative done → is_end ws ≡ false → (r : Words) → ws ≡ front ++ from at r
    → ((more : Words) → cell_line t (front ++ from at more) ≡ Err kind)
    → WhyCell (rows done) front at kind
    → IsFault table_grammar (lines_items (rows done) ++ map word front) (item_at at) kind
cell_fault done t ws front at kind all no_end r parts stays why = go at parts stays why
  where
    no_end_front :
        (front : Words) (at : Option (List ℕ)) → ws ≡ front ++ from at r → (more : Words)
        → end_row ≡ front ++ from at more → ⊥
    no_end_front [] None p more h = cc
    no_end_front [] (Some w) p more h =
        let same : codes "end" ≡ w = cc in
        let ends : is_end ws ≡ true = ap is_end p ∙ ap (λ (v : List ℕ). bytes_eq v (codes "end")) (sym same) in
        (let both : true ≡ false = sym ends ∙ no_end in cc)
    no_end_front (v ∷ front) at p more h =
        let same : codes "end" ≡ v = cc in
        let ends : is_end ws ≡ true = ap is_end p ∙ ap (λ (u : List ℕ). bytes_eq u (codes "end")) (sym same) in
        (let both : true ≡ false = sym ends ∙ no_end in cc)

    dead :
        (at : Option (List ℕ)) → ws ≡ front ++ from at r
        → ((more : Words) → cell_line t (front ++ from at more) ≡ Err kind) → IsHard kind
        → NoLine table_grammar table_rows (rows done) front at
    dead at p stays hard = no_row done front at (cell_dead t front at kind stays hard) (no_end_front front at p)

    unfit :
        (at : Option (List ℕ)) → ws ≡ front ++ from at r
        → ((more : Words) → cell_line t (front ++ from at more) ≡ Err kind) → IsHard kind
        → UnfitTable (lines_items (rows done) ++ map word front) (item_at at) kind
        → IsFault table_grammar (lines_items (rows done) ++ map word front) (item_at at) kind
    unfit at p stays hard h =
        unfit_fault table_grammar table_rows [] closed spelled BreaksCell given given (rows done) front at kind
        (dead at p stays hard) h

    judged :
        (w : List ℕ) → BeginsCell (front ++ w ∷ []) → BreaksCell (rows done) front w kind
        → IsFault table_grammar (lines_items (rows done) ++ map word front) (word w) kind
    judged w begins j =
        judged_fault table_grammar table_rows [] closed spelled BreaksCell given given (rows done) front w kind
        (begins_row done (front ++ w ∷ []) all begins) j

    go :
        (at : Option (List ℕ)) → ws ≡ front ++ from at r
        → ((more : Words) → cell_line t (front ++ from at more) ≡ Err kind) → WhyCell (rows done) front at kind
        → IsFault table_grammar (lines_items (rows done) ++ map word front) (item_at at) kind
    go None p stays (inl (k, s, a, e)) =
        unfit None p stays (subst IsHard (sym k) tt) (inl (last_equals (rows done) front (s ∷ a ∷ []) e, k))
    go None p stays (inr (k, no_equals)) =
        unfit None p stays (subst IsHard (sym k) tt) (inr (no_last_equals (rows done) front no_equals, k))
    go (Some w) p stays (inl k) = unfit (Some w) p stays (subst IsHard (sym k) tt) k
    go (Some w) p stays (inr (inl (k, twice, begins))) = judged w begins (inl (twice, k))
    go (Some w) p stays (inr (inr (k, count, begins))) = judged w begins (inr (count, k))

-- a line that is not an `end` line, at which a cell line stops
cell_stops_in_line :
    (done : List CellLine) (t : Table) (n : ℕ) (ws : Words) (rest : List Place) (kind : TableKind)
    → AllByRecursion HasAlternative done → Marks t (rows done) → is_end ws ≡ false → cell_line t ws ≡ Err kind
    → FaultBehind table_grammar (rows done) (line_places n ws rest) n kind
cell_stops_in_line done t n ws rest kind all marks no_end e =
    let s = cell_stops t (rows done) marks ws kind e in
    stops_in_line table_grammar table_rows [] closed spelled BreaksCell given given (rows done) n ws rest s.front s.at
    s.rest kind s.parts (begins_row done s.front all s.begins) (free_front (rows done) s.front s.why.few s.why.new)
    (cell_fault done t ws s.front s.at kind all no_end s.rest s.parts (λ more. s.local more) s.why.why)

-- an `end` line with more words
end_left :
    (done : List CellLine) (n : ℕ) (ws : Words) (rest : List Place) (kind : TableKind)
    → AllByRecursion HasAlternative done → is_end ws ≡ true → line_ends (drop 1 ws) ≡ Err kind
    → FaultBehind table_grammar (rows done) (line_places n ws rest) n kind
end_left done n [] rest kind all h e = absurd cc
end_left done n (v ∷ []) rest kind all h e = absurd cc
end_left done n (v ∷ w ∷ ws) rest kind all h e =
    let k : kind ≡ UnknownWord = cc in
    stops_in_line table_grammar table_rows [] closed spelled BreaksCell given given (rows done) n (v ∷ w ∷ ws) rest
    end_row (Some w) ws kind (ap (λ (u : List ℕ). u ∷ w ∷ ws) (is_word v (codes "end") h)) begins
    (free_front (rows done) end_row (few_total 16 end_row (omega arith)) new)
    (unfit_fault table_grammar table_rows [] closed spelled BreaksCell given given (rows done) end_row (Some w) kind
    (no_row done end_row (Some w) no_cell no_end) k)
  where
    begins : BeginsLine table_grammar table_rows (rows done) end_row
    begins = (done, [], [], all, refl)

    new : IsNew (rows done) end_row
    new a b more q has = cc

    no_cell : (c : CellLine) (more : Words) → HasAlternative c → cell_words c ≡ end_row ++ from (Some w) more → ⊥
    no_cell (local s e alts) more some h = let same : state_word s ≡ codes "end" = cc in no_state s same
      where
        no_state : (s : State) → state_word s ≡ codes "end" → ⊥
        no_state M h = cc
        no_state O h = cc
        no_state E h = cc
        no_state S h = cc
        no_state I h = cc
    no_cell (answer s e alts) more some h = let same : state_word s ≡ codes "end" = cc in no_state s same
      where
        no_state : (s : State) → state_word s ≡ codes "end" → ⊥
        no_state M h = cc
        no_state O h = cc
        no_state E h = cc
        no_state S h = cc
        no_state I h = cc

    no_end : (more : Words) → end_row ≡ end_row ++ from (Some w) more → ⊥
    no_end more h = cc

-- ---- all lines

abbrev go_on : ℕ → List Line → ℕ → Bool × Table → Result (Table × Unread) Fault
go_on n ls end x = cond x.0 (Ok (x.1, record { line = n; words = []; lines = ls; end = end })) (table_lines x.1 ls end)

abbrev end_of : Table → Result (Unit {0}) TableKind → Result (Bool × Table) TableKind
end_of t r = r >>= λ _. Ok (true, t)

abbrev cell_of : Result Table TableKind → Result (Bool × Table) TableKind
cell_of r = r >>= λ cells. Ok (false, cells)

fault_line :
    {X : Type 0} (n : ℕ) (k : TableKind) (f : Fault)
    → ◌≡◌ {A = Result X Fault} (Err (record { line = n; kind = k })) (Err f) → (n ≡ f.line) × (k ≡ f.kind)
fault_line n k f e =
    let same : record { line = n; kind = k } ≡ f = cc in
    (ap (λ (x : Fault). x.line) same, ap (λ (x : Fault). x.kind) same)

abbrev Faulty : List CellLine → List Place → Fault → Type 0
Faulty done ps f = FaultBehind table_grammar (rows done) ps f.line f.kind

faulty :
    (done : List CellLine) (ps : List Place) (n : ℕ) (k : TableKind) (f : Fault) → (n ≡ f.line) × (k ≡ f.kind)
    → FaultBehind table_grammar (rows done) ps n k → Faulty done ps f
faulty done ps n k f same h =
    subst (λ (x : ℕ). FaultBehind table_grammar (rows done) ps x f.kind) same.0
    (subst (λ (x : TableKind). FaultBehind table_grammar (rows done) ps n x) same.1 h)

-- what was passed
pub record Passed (done : List CellLine) (t : Table) : Type 0 where
  pub all : AllByRecursion HasAlternative done
  pub whole : HasAllCells t
  pub marks : Marks t (rows done)

pass :
    (done : List CellLine) (t : Table) (c : CellLine) (mid : Table) → Passed done t → HasAlternative c
    → mid ≡ entered t c → Passed (done ++ c ∷ []) mid
pass done t c mid p some e = record {
  all = all_push done c p.all some;
  whole = subst HasAllCells (sym e) (entered_whole t c p.whole);
  marks =
      subst (λ (x : Table). Marks x (rows (done ++ c ∷ []))) (sym e)
      (subst (λ (x : List Words). Marks (entered t c) x) (sym (rows_push done c))
      (marks_push t (rows done) c p.whole p.marks some));
}

passes_line :
    (done : List CellLine) (t : Table) (n : ℕ) (ws : Words) (rest : List Place) (f : Fault) (c : CellLine)
    → Passed done t → HasAlternative c → CanStand t c → ws ≡ cell_words c → Faulty (done ++ c ∷ []) rest f
    → Faulty done (line_places n ws rest) f
passes_line done t n ws rest f c p some can e h =
    let behind = behind_line table_grammar table_rows [] closed spelled BreaksCell given given (rows done) n
    (cell_words c) rest f.line f.kind (has_row done c p.all some)
    (free_front (rows done) (cell_words c) (few_row t c can) (new_row t (rows done) c p.marks can))
    (subst (λ (x : List Words). FaultBehind table_grammar x rest f.line f.kind) (rows_push done c) h) in
    subst (λ (x : Words). Faulty done (line_places n x rest) f) (sym e) behind

pub lines_stop :
    (done : List CellLine) (t : Table) (ls : List Line) (end : ℕ) (f : Fault) → Passed done t
    → table_lines t ls end ≡ Err f → Faulty done (lines_places ls end) f
unfolding table_lines table_line
lines_stop done t [] end f p e =
    faulty done (lines_places [] end) end NoEnd f (fault_line {X = Table × Unread} end NoEnd f e)
    (text_stops table_grammar table_rows [] closed spelled BreaksCell given given (rows done) end NoEnd never refl)
  where
    never :
        (cells : List CellLine) → AllByRecursion HasAlternative cells → table_rows cells ≡ rows done
        → [] ≡ text_end ∷ [] → ⊥
    never cells all h k = cc
lines_stop done t (l ∷ ls) end f p e = go (is_end l.words) refl e (λ more mid q h. lines_stop more mid ls end f q h)
  where
    at_end :
        (r : Result (Unit {0}) TableKind) → is_end l.words ≡ true → line_ends (drop 1 l.words) ≡ r
        → (on_line l.number (end_of t r) >>= go_on l.number ls end) ≡ Err f
        → Faulty done (line_places l.number l.words (lines_places ls end)) f
    at_end (Ok u) h k e = absurd cc
    at_end (Err k) h q e =
        faulty done (line_places l.number l.words (lines_places ls end)) l.number k f
        (fault_line {X = Table × Unread} l.number k f e)
        (end_left done l.number l.words (lines_places ls end) k p.all h q)

    at_cell :
        (r : Result Table TableKind) → is_end l.words ≡ false → cell_line t l.words ≡ r
        → (on_line l.number (cell_of r) >>= go_on l.number ls end) ≡ Err f
        → ((more : List CellLine) (mid : Table) → Passed more mid → table_lines mid ls end ≡ Err f
        → Faulty more (lines_places ls end) f)
        → Faulty done (line_places l.number l.words (lines_places ls end)) f
    at_cell (Err k) h q e ih =
        faulty done (line_places l.number l.words (lines_places ls end)) l.number k f
        (fault_line {X = Table × Unread} l.number k f e)
        (cell_stops_in_line done t l.number l.words (lines_places ls end) k p.all p.marks h q)
    at_cell (Ok mid) h q e ih =
        let c = cell_line_takes t l.words mid p.whole q in
        passes_line done t l.number l.words (lines_places ls end) f c.line p c.some c.can c.words
        (ih (done ++ c.line ∷ []) mid (pass done t c.line mid p c.some c.enters) e)

    go :
        (b : Bool) → is_end l.words ≡ b
        → (on_line l.number (cond b (end_of t (line_ends (drop 1 l.words))) (cell_of (cell_line t l.words))) >>= go_on
        l.number ls end) ≡ Err f
        → ((more : List CellLine) (mid : Table) → Passed more mid → table_lines mid ls end ≡ Err f
        → Faulty more (lines_places ls end) f)
        → Faulty done (line_places l.number l.words (lines_places ls end)) f
    go true h e ih = at_end (line_ends (drop 1 l.words)) h refl e
    go false h e ih = at_cell (cell_line t l.words) h refl e ih

-- A refusal in reading a table is at the first place at fault, and has its kind.
pub table_stops :
    (name : List ℕ) (u : Unread) (f : Fault) → table_at name u ≡ Err f
    → FirstFault table_grammar (places u) f.line f.kind
unfolding table_at
table_stops name u f e = first_fault table_grammar (places u) f.line f.kind (go u.words e)
  where
    no_first : (w : List ℕ) → NoLine table_grammar table_rows [] [] (Some w)
    no_first w cells more others all h = cc

    go :
        (ws : Words) → (on_line u.line (line_ends ws) >>= λ _. table_lines (empty_table name) u.lines u.end) ≡ Err f
        → FaultBehind table_grammar [] (line_places u.line ws (lines_places u.lines u.end)) f.line f.kind
    go (w ∷ ws) e =
        let same = fault_line {X = Table × Unread} u.line UnknownWord f e in
        let here = stops_in_line table_grammar table_rows [] closed spelled BreaksCell given given [] u.line (w ∷ ws)
        (lines_places u.lines u.end) [] (Some w) ws UnknownWord refl begins
        (free_front [] [] (few_total 16 [] (omega arith)) (λ a b more q has. has))
        (unfit_fault table_grammar table_rows [] closed spelled BreaksCell given given [] [] (Some w) UnknownWord
        (no_first w) refl) in
        subst (λ (x : ℕ).
        FaultBehind table_grammar [] (line_places u.line (w ∷ ws) (lines_places u.lines u.end)) x f.kind) same.0
        (subst (λ (x : TableKind).
        FaultBehind table_grammar [] (line_places u.line (w ∷ ws) (lines_places u.lines u.end)) u.line x)
        same.1 here)
      where
        begins : BeginsLine table_grammar table_rows [] []
        begins = ([], [], end_row ∷ [], tt, refl)
    go [] e =
        behind_line table_grammar table_rows [] closed spelled BreaksCell given given [] u.line []
        (lines_places u.lines u.end) f.line f.kind ([], end_row ∷ [], tt, refl)
        (free_front [] [] (few_total 16 [] (omega arith)) (λ a b more q has. has))
        (lines_stop [] (empty_table name) u.lines u.end f
        (record { all = tt; whole = empty_whole name; marks = marks_empty name }) e)
