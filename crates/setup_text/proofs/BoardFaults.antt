-- The first fault of a board line.
use Rattle.std.proofs.Common.{◌≡◌, ◌≢◌, ℕ, zero, suc, ◌<◌, ◌≤◌, ◌^◌, ◌⊎◌, inl, inr, Bool, true, false, not, ◌||◌, eqb, List, [], ◌∷◌, ◌++◌, map, length, get_or, drop, Option, Some, None, refl, sym, ap, ◌∙◌, arith, Contains, AllPairs}
use Rattle.std.specs.Prelude.{codes, decimal}
use Rattle.std.specs.Str.{bytes_eq}
use Rattle.std.proofs.lemmas.Bool.{eqb-true}
use Rattle.std.proofs.lemmas.List.{length-map, get_or-map}
use Rattle.std.proofs.lemmas.Slice.Eq.{bytes_eq-Decides}
use Rattle.fb_text.specs.Places.{Words}
use Rattle.moesi_state.specs.declared.State.{State}
use Rattle.moesi_state.specs.declared.State.TheVariants.{M, O, E, S, I}
use Rattle.class_relation.specs.Names.{is_name}
use Rattle.class_relation.specs.Tables.{Table}
use Rattle.table_check.specs.declared.boards.BoardSpec.{BoardSpec}
use Rattle.table_check.specs.declared.boards.Choose.{Choose}
use Rattle.table_check.specs.declared.boards.Choose.TheVariants.{First, Round, Seed}
use Rattle.table_check.specs.declared.boards.Shape.{Shape}
use Rattle.table_check.specs.declared.boards.Shape.TheVariants.{Plain, Cached}
use Rattle.table_check.specs.Reached.{is_reached}
use Rattle.setup_text.specs.Spelling.{BoardText, SetupText, board_row, shape_words, choose_words, open_rows, ShapeFits, ChooseFits, BoardFits}
use Rattle.setup_text.specs.Standing.{StandsSoFar}
use Rattle.setup_text.specs.Drafts.{named, further, found_name, stays_invalid}
use Rattle.setup_text.specs.Reading.{has_number}
use Rattle.setup_text.proofs.LineWords.{is_word}
use Rattle.setup_text.proofs.Growing.{number_new}
use Rattle.setup_text.proofs.Follows.{Follows, next_board, begins_by}
use Rattle.setup_text.proofs.LineFaults.{Begins, NumberTail, WordTail, NameTail, EndTail, only_board, no_row}

-- ---- tables by name

pub found_table :
    (w : List ℕ) (ts : List Table) (p : ℕ × Bool) → found_name (map named ts) w ≡ Some p
    → (t : Table) × Contains ts t × (t.name ≡ w) × (stays_invalid t ≡ p.1)
found_table w [] p e = absurd cc
found_table w (t ∷ ts) p e =
    go (bytes_eq w t.name) refl (found_name (map named ts) w) refl (λ q h. found_table w ts q h)
  where
    go :
        (b : Bool) → bytes_eq w t.name ≡ b → (r : Option (ℕ × Bool)) → found_name (map named ts) w ≡ r
        → ((q : ℕ × Bool) → found_name (map named ts) w ≡ Some q
        → (t : Table) × Contains ts t × (t.name ≡ w) × (stays_invalid t ≡ q.1))
        → (u : Table) × Contains (t ∷ ts) u × (u.name ≡ w) × (stays_invalid u ≡ p.1)
    go true h r k ih =
        let both : ◌≡◌ {A = Option (ℕ × Bool)} (Some (0, stays_invalid t)) (Some p) = rw h at e in
        let same : (0, stays_invalid t) ≡ p = cc in
        (t, (0, omega arith, refl), sym (is_word w t.name h), ap (λ (x : ℕ × Bool). x.1) same)
    go false h None k ih = let both : ◌≡◌ {A = Option (ℕ × Bool)} None (Some p) = rw (h, k) at e in absurd cc
    go false h (Some q) k ih =
        let both : ◌≡◌ {A = Option (ℕ × Bool)} (Some (further q)) (Some p) = rw (h, k) at e in
        let same : further q ≡ p = cc in
        let found = ih q k in
        let c = found.1 in
        (found.0, (suc c.0, omega (arith, c.1), c.2), found.2, found.3 ∙ ap (λ (x : ℕ × Bool). x.1) same)

abbrev pub Distinct : List Table → Type 0
Distinct ts = AllPairs (λ (a b : Table). a.name ≢ b.name) ts

pub found_same :
    (w : List ℕ) (ts : List Table) (p : ℕ × Bool) (u : Table) → Distinct ts → found_name (map named ts) w ≡ Some p
    → Contains ts u → u.name ≡ w → stays_invalid u ≡ p.1
found_same w [] p u d e c is = absurd cc
found_same w (t ∷ ts) p u d e c is =
    go (bytes_eq w t.name) refl (found_name (map named ts) w) refl c.0 c.1 c.2
    (λ q h k. found_same w ts q u (λ i j x low high. d (suc i) (suc j) x (omega arith) (omega arith)) h k is)
  where
    go :
        (b : Bool) → bytes_eq w t.name ≡ b → (r : Option (ℕ × Bool)) → found_name (map named ts) w ≡ r → (k : ℕ)
        → k < length (t ∷ ts) → get_or (t ∷ ts) k u ≡ u
        → ((q : ℕ × Bool) → found_name (map named ts) w ≡ Some q → Contains ts u → stays_invalid u ≡ q.1)
        → stays_invalid u ≡ p.1
    go true h r m zero low at ih =
        let both : ◌≡◌ {A = Option (ℕ × Bool)} (Some (0, stays_invalid t)) (Some p) = rw h at e in
        let same : (0, stays_invalid t) ≡ p = cc in
        ap stays_invalid (sym at) ∙ ap (λ (x : ℕ × Bool). x.1) same
    go true h r m (suc k) low at ih =
        let name : (get_or (t ∷ ts) (suc k) u).name ≡ w = ap (λ (x : Table). x.name) at ∙ is in
        absurd (d 0 (suc k) u (omega arith) low (sym (is_word w t.name h) ∙ sym name))
    go false h r m zero low at ih =
        let name : t.name ≡ w = ap (λ (x : Table). x.name) at ∙ is in
        let passed : bytes_eq w t.name ≡ true = (bytes_eq-Decides w t.name).1 (sym name) in
        (let both : true ≡ false = sym passed ∙ h in absurd cc)
    go false h None m (suc k) low at ih =
        let both : ◌≡◌ {A = Option (ℕ × Bool)} None (Some p) = rw (h, m) at e in absurd cc
    go false h (Some q) m (suc k) low at ih =
        let both : ◌≡◌ {A = Option (ℕ × Bool)} (Some (further q)) (Some p) = rw (h, m) at e in
        let same : further q ≡ p = cc in
        ih q m (k, omega arith, at) ∙ ap (λ (x : ℕ × Bool). x.1) same

-- a table that reaches another state
pub reaches_other : (t : Table) → stays_invalid t ≡ false → (s : State) × (is_reached t s ≡ true) × (s ≢ I)
reaches_other t h = go (is_reached t M) (is_reached t O) (is_reached t E) (is_reached t S) refl refl refl refl h
  where
    go :
        (m o e u : Bool) → is_reached t M ≡ m → is_reached t O ≡ o → is_reached t E ≡ e → is_reached t S ≡ u
        → not (m || o || e || u) ≡ false → (s : State) × (is_reached t s ≡ true) × (s ≢ I)
    go true o e u hm ho he hs h = (M, hm, λ x. cc)
    go false true e u hm ho he hs h = (O, ho, λ x. cc)
    go false false true u hm ho he hs h = (E, he, λ x. cc)
    go false false false true hm ho he hs h = (S, hs, λ x. cc)
    go false false false false hm ho he hs h = absurd cc

pub stays_only : (t : Table) (s : State) → stays_invalid t ≡ true → is_reached t s ≡ true → s ≢ I → ⊥
stays_only t s h r other =
    go s r other (is_reached t M) (is_reached t O) (is_reached t E) (is_reached t S) refl refl refl refl h
  where
    go :
        (s : State) → is_reached t s ≡ true → s ≢ I → (m o e u : Bool) → is_reached t M ≡ m → is_reached t O ≡ o
        → is_reached t E ≡ e → is_reached t S ≡ u → not (m || o || e || u) ≡ true → ⊥
    go I r other m o e u hm ho he hs h = other refl
    go M r other false o e u hm ho he hs h = let both : true ≡ false = sym r ∙ hm in cc
    go O r other m false e u hm ho he hs h = let both : true ≡ false = sym r ∙ ho in cc
    go E r other m o false u hm ho he hs h = let both : true ≡ false = sym r ∙ he in cc
    go S r other m o e false hm ho he hs h = let both : true ≡ false = sym r ∙ hs in cc
    go M r other true o e u hm ho he hs h = cc
    go O r other true true e u hm ho he hs h = cc
    go O r other false true e u hm ho he hs h = cc
    go E r other true o true u hm ho he hs h = cc
    go E r other false true true u hm ho he hs h = cc
    go E r other false false true u hm ho he hs h = cc
    go S r other true o e true hm ho he hs h = cc
    go S r other false true e true hm ho he hs h = cc
    go S r other false false true true hm ho he hs h = cc
    go S r other false false false true hm ho he hs h = cc

-- ---- numbers of boards

abbrev pub numbers_of : List BoardSpec → List ℕ
numbers_of boards = map (λ (b : BoardSpec). b.number) boards

pub has_contains : (boards : List BoardSpec) (n : ℕ) → has_number boards n ≡ true → Contains (numbers_of boards) n
has_contains [] n e = absurd cc
has_contains (b ∷ bs) n e = go (eqb b.number n) refl e (λ h. has_contains bs n h)
  where
    go :
        (x : Bool) → eqb b.number n ≡ x → (x || has_number bs n) ≡ true
        → (has_number bs n ≡ true → Contains (numbers_of bs) n) → Contains (numbers_of (b ∷ bs)) n
    go true h e ih = (0, omega arith, eqb-true b.number n h)
    go false h e ih = let c = ih e in (suc c.0, omega (arith, c.1), c.2)

pub new_contains : (boards : List BoardSpec) (n : ℕ) → has_number boards n ≡ false → Contains (numbers_of boards) n → ⊥
new_contains [] n e c = (let low = c.1 in omega arith)
new_contains (b ∷ bs) n e (k, low, at) =
    let here : k < length (b ∷ bs) = omega (arith, low, length-map (b ∷ bs) (λ (b : BoardSpec). b.number)) in
    number_new (b ∷ bs) n e k b here (sym (get_or-map (λ (b : BoardSpec). b.number) (b ∷ bs) k b n here) ∙ at)

-- ---- fronts of a board line

abbrev pub b1 : Words
b1 = codes "board" ∷ []

abbrev pub b2 : ℕ → Words
b2 p = codes "board" ∷ decimal p ∷ []

abbrev pub b3 : ℕ → Words
b3 p = codes "board" ∷ decimal p ∷ codes "number" ∷ []

abbrev pub b4 : ℕ → ℕ → Words
b4 p n = codes "board" ∷ decimal p ∷ codes "number" ∷ decimal n ∷ []

abbrev pub b5 : ℕ → ℕ → Words
b5 p n = codes "board" ∷ decimal p ∷ codes "number" ∷ decimal n ∷ codes "table" ∷ []

abbrev pub b6 : ℕ → ℕ → List ℕ → Words → Words
b6 p n t ws = codes "board" ∷ decimal p ∷ codes "number" ∷ decimal n ∷ codes "table" ∷ t ∷ ws

abbrev pub made : ℕ → ℕ → List ℕ → Shape → Choose → BoardText
made p n t shape choose = record { place = p; number = n; table = t; shape = shape; choose = choose; script = [] }

pub fits_made :
    (p n : ℕ) (t : List ℕ) (shape : Shape) (choose : Choose) → p < 2 ^ 32 → 1 ≤ n → n ≤ 1023 → is_name t ≡ true
    → ShapeFits shape → ChooseFits choose → BoardFits (made p n t shape choose)
fits_made p n t shape choose a b c d e f =
    record { place = a; number = (b, c); table = d; shape = e; choose = f; script = tt }

pub begins_board :
    (s : SetupText) (b : BoardText) (front more : Words) → StandsSoFar s → BoardFits b → b.script ≡ []
    → board_row b ≡ front ++ more → Begins s front
begins_board s b front more h fits none e =
    begins_by (open_rows s) (board_row b) front more
    (next_board (s.lines, s.fair) s.words s.tables s.boards b h.fits fits none) e

-- what is a name
pub a_name : is_name (codes "a") ≡ true
a_name = refl

pub begins_place : (s : SetupText) (p : ℕ) → StandsSoFar s → p < 2 ^ 32 → Begins s (b2 p)
begins_place s p h low =
    begins_board s (made p 1 (codes "a") Plain First) (b2 p) (drop 2 (board_row (made p 1 (codes "a") Plain First))) h
    (fits_made p 1 (codes "a") Plain First low (omega arith) (omega arith) a_name tt tt) refl refl

pub begins_word : (s : SetupText) → StandsSoFar s → Begins s b1
begins_word s h =
    begins_board s (made 1 1 (codes "a") Plain First) b1 (drop 1 (board_row (made 1 1 (codes "a") Plain First))) h
    (fits_made 1 1 (codes "a") Plain First (omega arith) (omega arith) (omega arith) a_name tt tt) refl refl

pub begins_number_word : (s : SetupText) (p : ℕ) → StandsSoFar s → p < 2 ^ 32 → Begins s (b3 p)
begins_number_word s p h low =
    begins_board s (made p 1 (codes "a") Plain First) (b3 p) (drop 3 (board_row (made p 1 (codes "a") Plain First))) h
    (fits_made p 1 (codes "a") Plain First low (omega arith) (omega arith) a_name tt tt) refl refl

pub begins_number : (s : SetupText) (p n : ℕ) → StandsSoFar s → p < 2 ^ 32 → 1 ≤ n → n ≤ 1023 → Begins s (b4 p n)
begins_number s p n h low a b =
    begins_board s (made p n (codes "a") Plain First) (b4 p n) (drop 4 (board_row (made p n (codes "a") Plain First))) h
    (fits_made p n (codes "a") Plain First low a b a_name tt tt) refl refl

pub begins_table_word : (s : SetupText) (p n : ℕ) → StandsSoFar s → p < 2 ^ 32 → 1 ≤ n → n ≤ 1023 → Begins s (b5 p n)
begins_table_word s p n h low a b =
    begins_board s (made p n (codes "a") Plain First) (b5 p n) (drop 5 (board_row (made p n (codes "a") Plain First))) h
    (fits_made p n (codes "a") Plain First low a b a_name tt tt) refl refl

pub begins_behind :
    (s : SetupText) (p n : ℕ) (t : List ℕ) (shape : Shape) (choose : Choose) (ws more : Words) → StandsSoFar s
    → p < 2 ^ 32 → 1 ≤ n → n ≤ 1023 → is_name t ≡ true → ShapeFits shape → ChooseFits choose
    → shape_words shape ++ codes "choose" ∷ choose_words choose ≡ ws ++ more → Begins s (b6 p n t ws)
begins_behind s p n t shape choose ws more h low a b is fs fc e =
    begins_board s (made p n t shape choose) (b6 p n t ws) more h (fits_made p n t shape choose low a b is fs fc) refl
    (ap (λ (x : Words). b6 p n t x) e)

-- ---- what can follow them

pub expects_place :
    (s : SetupText) (t : Words) (others : List Words) → Follows s (b1 ++ t) others → NumberTail 0 4294967295 t
expects_place s t others f =
    let b = only_board s t others f in
    let fits = b.1 in
    let low = fits.place in
    let e = b.2 in (b.0.place, drop 2 (board_row b.0), ap (λ (x : Words). drop 1 x) e, omega arith, omega arith)

pub expects_number_word :
    (s : SetupText) (p : ℕ) (t : Words) (others : List Words) → Follows s (b2 p ++ t) others
    → WordTail (codes "number") t
expects_number_word s p t others f =
    let b = only_board s (decimal p ∷ t) others f in
    let e = b.2 in (drop 3 (board_row b.0), ap (λ (x : Words). drop 2 x) e)

pub expects_number :
    (s : SetupText) (p : ℕ) (t : Words) (others : List Words) → Follows s (b3 p ++ t) others → NumberTail 1 1023 t
expects_number s p t others f =
    let b = only_board s (decimal p ∷ codes "number" ∷ t) others f in
    let fits = b.1 in
    let e = b.2 in (b.0.number, drop 4 (board_row b.0), ap (λ (x : Words). drop 3 x) e, fits.number.0, fits.number.1)

pub expects_table_word :
    (s : SetupText) (p n : ℕ) (t : Words) (others : List Words) → Follows s (b4 p n ++ t) others
    → WordTail (codes "table") t
expects_table_word s p n t others f =
    let b = only_board s (decimal p ∷ codes "number" ∷ decimal n ∷ t) others f in
    let e = b.2 in (drop 5 (board_row b.0), ap (λ (x : Words). drop 4 x) e)

pub expects_name :
    (s : SetupText) (p n : ℕ) (t : Words) (others : List Words) → Follows s (b5 p n ++ t) others → NameTail t
expects_name s p n t others f =
    let b = only_board s (decimal p ∷ codes "number" ∷ decimal n ∷ codes "table" ∷ t) others f in
    let fits = b.1 in let e = b.2 in (b.0.table, drop 6 (board_row b.0), ap (λ (x : Words). drop 5 x) e, fits.table)

-- the rest of a board line after the name of its table
abbrev pub RestTail : Words → Type 0
RestTail t =
    (shape : Shape) × (choose : Choose) × ShapeFits shape × ChooseFits choose
    × (t ≡ shape_words shape ++ codes "choose" ∷ choose_words choose)

pub expects_rest :
    (s : SetupText) (p n : ℕ) (name : List ℕ) (t : Words) (others : List Words) → Follows s (b6 p n name t) others
    → RestTail t
expects_rest s p n name t others f =
    let b = only_board s (decimal p ∷ codes "number" ∷ decimal n ∷ codes "table" ∷ name ∷ t) others f in
    let fits = b.1 in let e = b.2 in (b.0.shape, b.0.choose, fits.shape, fits.choose, ap (λ (x : Words). drop 6 x) e)

abbrev pub ShapeTail : Words → Type 0
ShapeTail t = WordTail (codes "plain") t ⊎ WordTail (codes "cached") t

pub shape_tail : (t : Words) → RestTail t → ShapeTail t
shape_tail t (Plain, c, fs, fc, e) = inl (codes "choose" ∷ choose_words c, e)
shape_tail t (Cached m n, c, fs, fc, e) = inr (decimal m ∷ decimal n ∷ codes "choose" ∷ choose_words c, e)

pub sets_tail : (t : Words) → RestTail (codes "cached" ∷ t) → NumberTail 1 256 t
sets_tail t (Plain, c, fs, fc, e) = absurd (no_row (codes "cached") e refl refl)
sets_tail t (Cached m n, c, fs, fc, e) =
    (m, decimal n ∷ codes "choose" ∷ choose_words c, ap (λ (x : Words). drop 1 x) e, fs.0, fs.1)

pub ways_tail : (a : ℕ) (t : Words) → RestTail (codes "cached" ∷ decimal a ∷ t) → NumberTail 1 256 t
ways_tail a t (Plain, c, fs, fc, e) = absurd (no_row (codes "cached") e refl refl)
ways_tail a t (Cached m n, c, fs, fc, e) =
    (n, codes "choose" ∷ choose_words c, ap (λ (x : Words). drop 2 x) e, fs.2, fs.3)

-- after the cache of a board
abbrev pub ChoiceTail : Words → Type 0
ChoiceTail t = (choose : Choose) × ChooseFits choose × (t ≡ codes "choose" ∷ choose_words choose)

pub choice_tail : (shape : Shape) (t : Words) → RestTail (shape_words shape ++ t) → ChoiceTail t
choice_tail Plain t (Plain, c, fs, fc, e) = (c, fc, ap (λ (x : Words). drop 1 x) e)
choice_tail Plain t (Cached m n, c, fs, fc, e) = absurd (no_row (codes "plain") e refl refl)
choice_tail (Cached a b) t (Plain, c, fs, fc, e) = absurd (no_row (codes "cached") e refl refl)
choice_tail (Cached a b) t (Cached m n, c, fs, fc, e) = (c, fc, ap (λ (x : Words). drop 3 x) e)

abbrev pub ChooserTail : Words → Type 0
ChooserTail t = WordTail (codes "first") t ⊎ (WordTail (codes "round") t ⊎ WordTail (codes "seed") t)

pub chooser_tail : (t : Words) → ChoiceTail (codes "choose" ∷ t) → ChooserTail t
chooser_tail t (First, fc, e) = inl ([], ap (λ (x : Words). drop 1 x) e)
chooser_tail t (Round, fc, e) = inr (inl ([], ap (λ (x : Words). drop 1 x) e))
chooser_tail t (Seed n, fc, e) = inr (inr (decimal n ∷ [], ap (λ (x : Words). drop 1 x) e))

pub seed_tail : (t : Words) → ChoiceTail (codes "choose" ∷ codes "seed" ∷ t) → NumberTail 0 18446744073709551615 t
seed_tail t (First, fc, e) = absurd (no_row (codes "seed") (ap (λ (x : Words). drop 1 x) e) refl refl)
seed_tail t (Round, fc, e) = absurd (no_row (codes "seed") (ap (λ (x : Words). drop 1 x) e) refl refl)
seed_tail t (Seed n, fc, e) = (n, [], ap (λ (x : Words). drop 2 x) e, omega arith, omega arith)

pub done_tail : (choose : Choose) (t : Words) → ChoiceTail (codes "choose" ∷ (choose_words choose ++ t)) → EndTail t
done_tail First t (First, fc, e) = ap (λ (x : Words). drop 2 x) e
done_tail First t (Round, fc, e) = absurd (no_row (codes "first") (ap (λ (x : Words). drop 1 x) e) refl refl)
done_tail First t (Seed n, fc, e) = absurd (no_row (codes "first") (ap (λ (x : Words). drop 1 x) e) refl refl)
done_tail Round t (First, fc, e) = absurd (no_row (codes "round") (ap (λ (x : Words). drop 1 x) e) refl refl)
done_tail Round t (Round, fc, e) = ap (λ (x : Words). drop 2 x) e
done_tail Round t (Seed n, fc, e) = absurd (no_row (codes "round") (ap (λ (x : Words). drop 1 x) e) refl refl)
done_tail (Seed m) t (First, fc, e) = absurd (no_row (codes "seed") (ap (λ (x : Words). drop 1 x) e) refl refl)
done_tail (Seed m) t (Round, fc, e) = absurd (no_row (codes "seed") (ap (λ (x : Words). drop 1 x) e) refl refl)
done_tail (Seed m) t (Seed n, fc, e) = ap (λ (x : Words). drop 3 x) e
