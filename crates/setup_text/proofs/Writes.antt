-- What is written word after word, line after line and part after part is the text of all of them.
use Rattle.std.proofs.Common.{◌≡◌, ℕ, ◌+◌, ◌<◌, Bool, true, false, cond, List, [], ◌∷◌, ◌++◌, length, map, take, get_or, sym, ap, subst, ◌∙◌, append_assoc, arith}
use Rattle.std.specs.Prelude.{codes, decimal, nat_eq}
use Rattle.std.specs.List.{flat_map, AllByRecursion}
use Rattle.std.proofs.lemmas.List.{append-nil, map-append, take_more, length-take-le}
use Rattle.std.proofs.lemmas.Grind.{flat_map-append}
use Rattle.fb_text.specs.Places.{Words}
use Rattle.fb_text.specs.Written.{after_words, line_bytes, lines_bytes}
use Rattle.table_text.proofs.Writes.{after_append, lines_bytes_append}
use Rattle.bus_signals.specs.declared.Access.{Access}
use Rattle.class_relation.specs.Tables.{Table}
use Rattle.table_check.specs.declared.boards.BoardSpec.{BoardSpec}
use Rattle.table_text.specs.Writing.{written_table}
use Rattle.setup.specs.Setup.{Setup, line_count}
use Rattle.setup_text.specs.Spelling.{BoardText, end_row, memory_row, arbiter_rows, word_row, board_row, shape_words, choose_words, table_rows, tables_rows, board_rows}
use Rattle.setup_text.specs.Writing.{words_from, text_of_table, text_of_board, boards_from, written_setup}

-- ---- one line

pub one_written : (old w a : List ℕ) → ((old ++ w) ++ 32 ∷ a) ++ 10 ∷ [] ≡ old ++ line_bytes (w ∷ a ∷ [])
one_written old w a = simp (append_assoc, append-nil)

pub two_written :
    (old w a b : List ℕ) → (((old ++ w) ++ 32 ∷ a) ++ 32 ∷ b) ++ 10 ∷ [] ≡ old ++ line_bytes (w ∷ a ∷ b ∷ [])
two_written old w a b = simp (append_assoc, append-nil)

-- the line of a board
board_parts :
    (a b c d e f g h i j k : List ℕ)
    → (((((((((a ++ b) ++ c) ++ d) ++ e) ++ f) ++ g) ++ h) ++ i) ++ j) ++ k
    ≡ a ++ (b ++ ((c ++ (d ++ (e ++ (f ++ (g ++ (h ++ (i ++ j))))))) ++ k))
board_parts a b c d e f g h i j k = simp append_assoc

pub board_written :
    (old : List ℕ) (b : BoardText)
    → (((((((((old ++ codes "board") ++ 32 ∷ decimal b.place) ++ 32 ∷ codes "number") ++ 32 ∷ decimal b.number) ++ 32
    ∷ codes "table") ++ 32 ∷ b.table) ++ after_words (shape_words b.shape)) ++ 32
    ∷ codes "choose") ++ after_words (choose_words b.choose)) ++ 10 ∷ []
    ≡ old ++ line_bytes (board_row b)
board_written old b =
    let last : after_words (shape_words b.shape ++ codes "choose" ∷ choose_words b.choose)
    ≡ after_words (shape_words b.shape) ++ 32 ∷ (codes "choose" ++ after_words (choose_words b.choose)) =
    after_append (shape_words b.shape) (codes "choose" ∷ choose_words b.choose) in
    board_parts old (codes "board") (32 ∷ decimal b.place) (32 ∷ codes "number") (32 ∷ decimal b.number)
    (32 ∷ codes "table") (32 ∷ b.table) (after_words (shape_words b.shape)) (32 ∷ codes "choose")
    (after_words (choose_words b.choose)) (10 ∷ [])
    ∙ ap (λ (v : List ℕ).
    old
    ++ (codes "board"
    ++ ((32
    ∷ (decimal b.place ++ 32
    ∷ (codes "number" ++ 32
    ∷ (decimal b.number ++ 32 ∷ (codes "table" ++ 32 ∷ (b.table ++ v))))))
    ++ 10 ∷ []))) (sym last)

-- ---- more lines

-- more lines after those that were written
pub rows_more :
    (old x y : List ℕ) (a b : List Words) → x ≡ old ++ lines_bytes a → y ≡ x ++ lines_bytes b
    → y ≡ old ++ lines_bytes (a ++ b)
rows_more old x y a b e h =
    h
    ∙ (ap (λ (v : List ℕ). v ++ lines_bytes b) e
    ∙ (append_assoc old (lines_bytes a) (lines_bytes b)
    ∙ ap (λ (v : List ℕ). old ++ v) (sym (lines_bytes_append a b))))

-- one line is these bytes
pub row_bytes : (x : List ℕ) (l : Words) → x ++ line_bytes l ≡ x ++ lines_bytes (l ∷ [])
row_bytes x l = ap (λ (v : List ℕ). x ++ v) (sym (append-nil (line_bytes l)))

-- those so far and one more
pub taken :
    {X : Type 0} (xs : List X) (i : ℕ) (x : X) → i < length xs → x ≡ get_or xs i x
    → take (i + 1) xs ≡ take i xs ++ x ∷ []
taken {X} xs i x lt is = take_more xs i x lt ∙ ap (λ (v : X). take i xs ++ v ∷ []) (sym is)

-- one more line
pub row_more :
    {X : Type 0} (f : X → Words) (old bytes new : List ℕ) (xs : List X) (i : ℕ) (x : X) → i < length xs
    → x ≡ get_or xs i x → bytes ≡ old ++ lines_bytes (map f (take i xs)) → new ≡ bytes ++ line_bytes (f x)
    → new ≡ old ++ lines_bytes (map f (take (i + 1) xs))
row_more {X} f old bytes new xs i x lt is e h =
    rows_more old bytes new (map f (take i xs)) (f x ∷ []) e (h ∙ row_bytes bytes (f x))
    ∙ ap (λ (v : List Words). old ++ lines_bytes v)
    (sym (map-append f (take i xs) (x ∷ [])) ∙ ap (λ (v : List X). map f v) (sym (taken xs i x lt is)))

-- one more part of several lines
pub part_more :
    {X : Type 0} (f : X → List Words) (old bytes new : List ℕ) (xs : List X) (i : ℕ) (x : X) → i < length xs
    → x ≡ get_or xs i x → bytes ≡ old ++ lines_bytes (flat_map f (take i xs)) → new ≡ bytes ++ lines_bytes (f x)
    → new ≡ old ++ lines_bytes (flat_map f (take (i + 1) xs))
part_more {X} f old bytes new xs i x lt is e h =
    rows_more old bytes new (flat_map f (take i xs)) (f x) e h
    ∙ ap (λ (v : List Words). old ++ lines_bytes v)
    (ap (λ (v : List Words). flat_map f (take i xs) ++ v) (sym (append-nil (f x)))
    ∙ (sym (flat_map-append f (take i xs) (x ∷ []))
    ∙ ap (λ (v : List X). flat_map f v) (sym (taken xs i x lt is))))

-- what holds of those so far and of one more
pub all_append :
    {X : Type 0} (P : X → Type 0) (xs ys : List X) → AllByRecursion P xs → AllByRecursion P ys
    → AllByRecursion P (xs ++ ys)
all_append P [] ys h k = k
all_append P (x ∷ xs) ys h k = (h.0, all_append P xs ys h.1 k)

pub all_more :
    {X : Type 0} (P : X → Type 0) (xs : List X) (i : ℕ) (x : X) → i < length xs → x ≡ get_or xs i x
    → AllByRecursion P (take i xs) → P x → AllByRecursion P (take (i + 1) xs)
all_more {X} P xs i x lt is h k =
    subst (λ (v : List X). AllByRecursion P v) (sym (taken xs i x lt is)) (all_append P (take i xs) (x ∷ []) h (k, tt))

-- ---- words of memory

pub words_append :
    (addr : ℕ) (xs ys : List ℕ) → words_from addr (xs ++ ys) ≡ words_from addr xs ++ words_from (addr + length xs) ys
words_append addr [] ys = ap (λ (n : ℕ). words_from n ys) (omega arith)
words_append addr (x ∷ xs) ys =
    go (nat_eq x 0)
    (words_append (addr + 1) xs ys ∙ ap (λ (n : ℕ). words_from (addr + 1) xs ++ words_from n ys) (omega arith))
  where
    go :
        (b : Bool)
        → words_from (addr + 1) (xs ++ ys) ≡ words_from (addr + 1) xs ++ words_from (addr + length (x ∷ xs)) ys
        → cond b (words_from (addr + 1) (xs ++ ys)) ((addr, x) ∷ words_from (addr + 1) (xs ++ ys))
        ≡ cond b (words_from (addr + 1) xs) ((addr, x) ∷ words_from (addr + 1) xs)
        ++ words_from (addr + length (x ∷ xs)) ys
    go true rest = rest
    go false rest = ap (λ (v : List (ℕ × ℕ)). (addr, x) ∷ v) rest

words_taken :
    (xs : List ℕ) (i x : ℕ) → i < length xs → x ≡ get_or xs i x
    → words_from 0 (take (i + 1) xs) ≡ words_from 0 (take i xs) ++ words_from i (x ∷ [])
words_taken xs i x lt is =
    ap (words_from 0) (taken xs i x lt is)
    ∙ (words_append 0 (take i xs) (x ∷ [])
    ∙ ap (λ (n : ℕ). words_from 0 (take i xs) ++ words_from n (x ∷ [])) (omega (arith, length-take-le i xs)))

-- one more word of memory
pub word_more :
    (old bytes new : List ℕ) (xs : List ℕ) (i x : ℕ) → i < length xs → x ≡ get_or xs i x
    → bytes ≡ old ++ lines_bytes (map word_row (words_from 0 (take i xs)))
    → new ≡ bytes ++ lines_bytes (map word_row (words_from i (x ∷ [])))
    → new ≡ old ++ lines_bytes (map word_row (words_from 0 (take (i + 1) xs)))
word_more old bytes new xs i x lt is e h =
    rows_more old bytes new (map word_row (words_from 0 (take i xs))) (map word_row (words_from i (x ∷ []))) e h
    ∙ ap (λ (v : List Words). old ++ lines_bytes v)
    (sym (map-append word_row (words_from 0 (take i xs)) (words_from i (x ∷ [])))
    ∙ ap (λ (v : List (ℕ × ℕ)). map word_row v) (sym (words_taken xs i x lt is)))

pub some_word :
    (bytes : List ℕ) (i x : ℕ) → nat_eq x 0 ≡ false
    → bytes ++ line_bytes (word_row (i, x)) ≡ bytes ++ lines_bytes (map word_row (words_from i (x ∷ [])))
some_word bytes i x h =
    row_bytes bytes (word_row (i, x))
    ∙ ap (λ (b : Bool). bytes ++ lines_bytes (map word_row (cond b [] ((i, x) ∷ [])))) (sym h)

pub no_word :
    (bytes : List ℕ) (i x : ℕ) → nat_eq x 0 ≡ true → bytes ≡ bytes ++ lines_bytes (map word_row (words_from i (x ∷ [])))
no_word bytes i x h =
    sym (append-nil bytes) ∙ ap (λ (b : Bool). bytes ++ lines_bytes (map word_row (cond b [] ((i, x) ∷ [])))) (sym h)

-- ---- tables

pub table_more :
    (old bytes new : List ℕ) (ts : List Table) (i : ℕ) (t : Table) → i < length ts → t ≡ get_or ts i t
    → bytes ≡ old ++ lines_bytes (tables_rows (map text_of_table (take i ts))) → new ≡ bytes ++ written_table t
    → new ≡ old ++ lines_bytes (tables_rows (map text_of_table (take (i + 1) ts)))
unfolding written_table
table_more old bytes new ts i t lt is e h =
    rows_more old bytes new (tables_rows (map text_of_table (take i ts))) (table_rows (text_of_table t)) e h
    ∙ ap (λ (v : List Words). old ++ lines_bytes v)
    (sym (ap (λ (v : List Table). tables_rows (map text_of_table v)) (taken ts i t lt is)
    ∙ (ap tables_rows (map-append text_of_table (take i ts) (t ∷ []))
    ∙ (flat_map-append table_rows (map text_of_table (take i ts)) (text_of_table t ∷ [])
    ∙ ap (λ (v : List Words). tables_rows (map text_of_table (take i ts)) ++ v)
    (append-nil (table_rows (text_of_table t)))))))

-- ---- boards

pub boards_append :
    (tables : List Table) (place : ℕ) (bs : List BoardSpec) (ss : List (List Access)) (b : BoardSpec) (s : List Access)
    → length ss ≡ length bs
    → boards_from tables place (bs ++ b ∷ []) (ss ++ s ∷ [])
    ≡ boards_from tables place bs ss ++ text_of_board tables (place + length bs) b s ∷ []
boards_append tables place [] [] b s same = ap (λ (n : ℕ). text_of_board tables n b s ∷ []) (omega arith)
boards_append tables place [] (t ∷ ss) b s same = absurd (omega arith)
boards_append tables place (a ∷ bs) [] b s same = absurd (omega arith)
boards_append tables place (a ∷ bs) (t ∷ ss) b s same =
    ap (λ (v : List BoardText). text_of_board tables place a t ∷ v)
    (boards_append tables (place + 1) bs ss b s (omega arith)
    ∙ ap (λ (n : ℕ). boards_from tables (place + 1) bs ss ++ text_of_board tables n b s ∷ []) (omega arith))

-- one more board
pub board_more :
    (old bytes new : List ℕ) (tables : List Table) (bs : List BoardSpec) (ss : List (List Access)) (i place : ℕ)
    (b : BoardSpec) (s : List Access) → i < length bs → length ss ≡ length bs → b ≡ get_or bs i b
    → s ≡ get_or ss i s → place ≡ i + 1
    → bytes ≡ old ++ lines_bytes (flat_map board_rows (boards_from tables 1 (take i bs) (take i ss)))
    → new ≡ bytes ++ lines_bytes (board_rows (text_of_board tables place b s))
    → new ≡ old ++ lines_bytes (flat_map board_rows (boards_from tables 1 (take (i + 1) bs) (take (i + 1) ss)))
board_more old bytes new tables bs ss i place b s lt same is_b is_s at e h =
    let before : List BoardText = boards_from tables 1 (take i bs) (take i ss) in
    let one : BoardText = text_of_board tables place b s in
    let n : length (take i bs) ≡ i = length-take-le i bs (omega arith) in
    let m : length (take i ss) ≡ i = length-take-le i ss (omega arith) in
    let all : boards_from tables 1 (take (i + 1) bs) (take (i + 1) ss) ≡ before ++ one ∷ [] =
    ap (λ (v : List BoardSpec). boards_from tables 1 v (take (i + 1) ss)) (taken bs i b lt is_b)
    ∙ (ap (λ (v : List (List Access)). boards_from tables 1 (take i bs ++ b ∷ []) v) (taken ss i s (omega arith) is_s)
    ∙ (boards_append tables 1 (take i bs) (take i ss) b s (omega arith)
    ∙ ap (λ (k : ℕ). before ++ text_of_board tables k b s ∷ []) (omega arith))) in
    rows_more old bytes new (flat_map board_rows before) (board_rows one) e h
    ∙ ap (λ (v : List Words). old ++ lines_bytes v)
    (sym (ap (λ (v : List BoardText). flat_map board_rows v) all
    ∙ (flat_map-append board_rows before (one ∷ [])
    ∙ ap (λ (v : List Words). flat_map board_rows before ++ v) (append-nil (board_rows one)))))

-- ---- a whole setup

pub setup_written :
    (old memory arbiter words tables boards all : List ℕ) (s : Setup)
    → memory ≡ old ++ line_bytes (memory_row (line_count s))
    → arbiter ≡ memory ++ lines_bytes (arbiter_rows s.fair)
    → words ≡ arbiter ++ lines_bytes (map word_row (words_from 0 s.memory))
    → tables ≡ words ++ lines_bytes (tables_rows (map text_of_table s.tables))
    → boards ≡ tables ++ lines_bytes (flat_map board_rows (boards_from s.tables 1 s.boards s.scripts))
    → all ≡ boards ++ line_bytes end_row → all ≡ old ++ written_setup s
unfolding written_setup
setup_written old memory arbiter words tables boards all s e0 ea e1 e2 e3 e4 =
    let m : Words = memory_row (line_count s) in
    let a : List Words = arbiter_rows s.fair in
    let w : List Words = map word_row (words_from 0 s.memory) in
    let t : List Words = tables_rows (map text_of_table s.tables) in
    let b : List Words = flat_map board_rows (boards_from s.tables 1 s.boards s.scripts) in
    let h0 = rows_more old memory arbiter (m ∷ []) a (e0 ∙ row_bytes old m) ea in
    let h1 = rows_more old arbiter words (m ∷ a) w h0 e1 in
    let h2 = rows_more old words tables (m ∷ (a ++ w)) t h1 e2 in
    let h3 = rows_more old tables boards (m ∷ ((a ++ w) ++ t)) b h2 e3 in
    let h4 = rows_more old boards all (m ∷ (((a ++ w) ++ t) ++ b)) (end_row ∷ []) h3 (e4 ∙ row_bytes boards end_row) in
    h4
    ∙ ap (λ (v : List Words). old ++ lines_bytes (m ∷ (v ++ end_row ∷ [])))
    (append_assoc (a ++ w) t b ∙ append_assoc a w (t ++ b))
