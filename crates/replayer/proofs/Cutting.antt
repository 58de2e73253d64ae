-- The lines of a text, byte by byte.
use Rattle.std.proofs.Common.{◌≡◌, ℕ, ◌<◌, Bool, true, false, List, [], ◌∷◌, ◌++◌, length, refl, sym, ap, ◌∙◌, arith, append-nil}
use Rattle.std.specs.Prelude.{if◌then◌else◌}
use Rattle.std.specs.List.{onto_first, slice_split, AllByRecursion}
use Rattle.fb_text.specs.Lines.{is_line_feed}
use Rattle.replayer.specs.Lines.{Line, closed_line, open_line, last_line, lines_of_pieces, lines_of}
use Rattle.replayer.specs.Reader.{LacksFeed}

-- A byte before these lines.
abbrev pub put : ℕ → List Line → List Line
put b [] = open_line (b ∷ []) ∷ []
put b (l ∷ ls) = record { bytes = b ∷ l.bytes; closed = l.closed } ∷ ls

put_pieces : (b : ℕ) (ps : List (List ℕ)) → lines_of_pieces (onto_first b ps) ≡ put b (lines_of_pieces ps)
put_pieces b [] = refl
put_pieces b ([] ∷ []) = refl
put_pieces b ((c ∷ cs) ∷ []) = refl
put_pieces b (p ∷ q ∷ qs) = refl

some_onto : (b : ℕ) (ps : List (List ℕ)) → 0 < length (onto_first b ps)
some_onto b [] = omega arith
some_onto b (p ∷ ps) = omega arith

some_pieces : (text : List ℕ) → 0 < length (slice_split is_line_feed text)
some_pieces [] = omega arith
some_pieces (b ∷ text) = go (is_line_feed b)
  where
    go :
        (is : Bool)
        → 0 < length (if is then [] ∷ slice_split is_line_feed text else onto_first b (slice_split is_line_feed text))
    go true = omega arith
    go false = some_onto b (slice_split is_line_feed text)

closed_pieces :
    (p : List ℕ) (ps : List (List ℕ)) → 0 < length ps → lines_of_pieces (p ∷ ps) ≡ closed_line p ∷ lines_of_pieces ps
closed_pieces p [] some = absurd (omega arith)
closed_pieces p (q ∷ qs) some = refl

pub lines_none : lines_of [] ≡ []
unfolding lines_of
lines_none = refl

-- A line feed ends an empty line.
pub lines_feed : (b : ℕ) (text : List ℕ) → is_line_feed b ≡ true → lines_of (b ∷ text) ≡ closed_line [] ∷ lines_of text
unfolding lines_of
lines_feed b text is = rw is (closed_pieces [] (slice_split is_line_feed text) (some_pieces text))

-- Any other byte stands before the lines after it.
pub lines_byte : (b : ℕ) (text : List ℕ) → is_line_feed b ≡ false → lines_of (b ∷ text) ≡ put b (lines_of text)
unfolding lines_of
lines_byte b text is = rw is (put_pieces b (slice_split is_line_feed text))

-- ---- what lines are

-- A line has no line feed among its bytes, and has bytes where it has no line feed after them.
pub record IsLine (line : Line) : Type 0 where
  pub lacks : LacksFeed line.bytes
  pub some : line.closed ≡ false → 0 < length line.bytes

are_put :
    (b : ℕ) (ls : List Line) → is_line_feed b ≡ false → AllByRecursion IsLine ls → AllByRecursion IsLine (put b ls)
are_put b [] is all = (record { lacks = (is, tt); some = λ lacking. omega arith }, tt)
are_put b (l ∷ ls) is all = (record { lacks = (is, all.0.lacks); some = λ lacking. omega arith }, all.1)

pub are_lines : (text : List ℕ) → AllByRecursion IsLine (lines_of text)
are_lines [] = rw lines_none tt
are_lines (b ∷ text) = go (is_line_feed b) refl (are_lines text)
  where
    go :
        (is : Bool) → is_line_feed b ≡ is → AllByRecursion IsLine (lines_of text)
        → AllByRecursion IsLine (lines_of (b ∷ text))
    go true is more = rw (lines_feed b text is) (record { lacks = tt; some = λ lacking. absurd cc }, more)
    go false is more = rw (lines_byte b text is) (are_put b (lines_of text) is more)

-- ---- a front without a line feed

-- Bytes before these lines.
abbrev pub prefixed : List ℕ → List Line → List Line
prefixed front [] = last_line front
prefixed front (l ∷ ls) = record { bytes = front ++ l.bytes; closed = l.closed } ∷ ls

prefixed_none : (ls : List Line) → prefixed [] ls ≡ ls
prefixed_none [] = refl
prefixed_none (l ∷ ls) = refl

put_last : (b : ℕ) (front : List ℕ) → put b (last_line front) ≡ last_line (b ∷ front)
put_last b [] = refl
put_last b (c ∷ cs) = refl

put_prefixed : (b : ℕ) (front : List ℕ) (ls : List Line) → put b (prefixed front ls) ≡ prefixed (b ∷ front) ls
put_prefixed b front [] = put_last b front
put_prefixed b front (l ∷ ls) = refl

pub lines_prefixed : (front text : List ℕ) → LacksFeed front → lines_of (front ++ text) ≡ prefixed front (lines_of text)
lines_prefixed [] text lacks = sym (prefixed_none (lines_of text))
lines_prefixed (b ∷ front) text lacks =
    lines_byte b (front ++ text) lacks.0
    ∙ (ap (put b) (lines_prefixed front text lacks.1) ∙ put_prefixed b front (lines_of text))

-- Bytes and a line feed are the first line of what they begin.
pub lines_closed :
    (front text : List ℕ) → LacksFeed front → lines_of (front ++ 10 ∷ text) ≡ closed_line front ∷ lines_of text
lines_closed front text lacks =
    lines_prefixed front (10 ∷ text) lacks
    ∙ (ap (prefixed front) (lines_feed 10 text refl)
    ∙ ap (λ (bytes : List ℕ). closed_line bytes ∷ lines_of text) (append-nil front))

-- Bytes without a line feed are one line, where there are any.
pub lines_open : (front : List ℕ) → LacksFeed front → lines_of front ≡ last_line front
lines_open front lacks =
    ap lines_of (sym (append-nil front)) ∙ (lines_prefixed front [] lacks ∙ ap (prefixed front) lines_none)

-- ---- a text and what follows it

-- These lines, and a piece after them.
abbrev pub joined : List Line → List ℕ → List Line
joined [] piece = lines_of piece
joined (l ∷ ls) piece = if l.closed then l ∷ joined ls piece else lines_of (l.bytes ++ piece)

put_joined :
    (b : ℕ) (ls : List Line) (piece : List ℕ) → is_line_feed b ≡ false
    → put b (joined ls piece) ≡ joined (put b ls) piece
put_joined b [] piece is = sym (lines_byte b piece is)
put_joined b (l ∷ ls) piece is = go l.closed
  where
    go : (closed : Bool) → put b (if closed then l ∷ joined ls piece else lines_of (l.bytes ++ piece))
        ≡ (if closed
        then record { bytes = b ∷ l.bytes; closed = l.closed } ∷ joined ls piece
        else lines_of (b ∷ (l.bytes ++ piece)))
    go true = refl
    go false = sym (lines_byte b (l.bytes ++ piece) is)

pub lines_joined : (text piece : List ℕ) → lines_of (text ++ piece) ≡ joined (lines_of text) piece
lines_joined [] piece = ap (λ (ls : List Line). joined ls piece) (sym lines_none)
lines_joined (b ∷ text) piece = go (is_line_feed b) refl (lines_joined text piece)
  where
    go :
        (is : Bool) → is_line_feed b ≡ is → lines_of (text ++ piece) ≡ joined (lines_of text) piece
        → lines_of (b ∷ (text ++ piece)) ≡ joined (lines_of (b ∷ text)) piece
    go true is more =
        lines_feed b (text ++ piece) is
        ∙ (ap (λ (ls : List Line). closed_line [] ∷ ls) more
        ∙ ap (λ (ls : List Line). joined ls piece) (sym (lines_feed b text is)))
    go false is more =
        lines_byte b (text ++ piece) is
        ∙ (ap (put b) more
        ∙ (put_joined b (lines_of text) piece is
        ∙ ap (λ (ls : List Line). joined ls piece) (sym (lines_byte b text is))))
