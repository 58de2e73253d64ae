-- What is spelled as a setup is read, and a setup that is written is read again.
use Rattle.std.proofs.Common.{◌≡◌, ℕ, ◌+◌, List, [], ◌∷◌, ◌++◌, length, map, Result, Ok, Err, sym, ap, ◌∙◌, arith}
use Rattle.fb_text.specs.Lines.{lines}
use Rattle.fb_text.specs.Unread.{Line, unread, numbered}
use Rattle.fb_text.specs.Places.{Words, text_end, items, lines_items, lines_places, text_places}
use Rattle.fb_text.proofs.Spaced.{numbered_rows, lines_numbered}
use Rattle.setup.specs.Setup.{Setup}
use Rattle.table_text.specs.Reading.{◌>>=◌}
use Rattle.setup_text.specs.declared.fault.SetupFault.{SetupFault}
use Rattle.setup_text.specs.declared.fault.SetupFault.TheVariants as faults
use Rattle.setup_text.specs.declared.fault.SetupKind.{SetupKind}
use Rattle.setup_text.specs.declared.fault.SetupKind.TheVariants.{UnknownWord}
use Rattle.setup_text.specs.Spelling.{SetupText, setup_rows, setup_items}
use Rattle.setup_text.specs.Values.{setup_of}
use Rattle.setup_text.specs.Correct.{SetupStands, IsReadAs}
use Rattle.setup_text.specs.Reading.{Mode, start, ended, Fault, Answers, on_line, line_at, lines_at, setup_at}
use Rattle.setup_text.specs.Writing.{text_of, written_setup, IsWholeSetup, lines_behind, IsReadBefore}
use Rattle.setup_text.proofs.Texts.{text_items, same_rows}
use Rattle.setup_text.proofs.WrittenRows.{setup_plain}
use Rattle.setup_text.proofs.WrittenSetup.{fits, stands, value_again}
use Rattle.setup_text.proofs.RowsAgain.{read_rows, setup_read}

abbrev pub words_of : List Line → List Words
words_of ls = map (λ (l : Line). l.words) ls

-- lines that are read one after another
lines_read :
    (m n : Mode) (ls : List Line) (end : ℕ) → read_rows line_at m (words_of ls) ≡ Ok n
    → lines_at m ls end ≡ lines_at n [] end
unfolding lines_at
lines_read m n [] end e = let same : m ≡ n = cc in ap (λ (x : Mode). lines_at x [] end) same
lines_read m n (l ∷ ls) end e = go (λ next h. lines_read next n ls end h) (line_at m l.words) e
  where
    go :
        ((next : Mode) → read_rows line_at next (words_of ls) ≡ Ok n → lines_at next ls end ≡ lines_at n [] end)
        → (x : Result Mode SetupKind) → (x >>= λ next. read_rows line_at next (words_of ls)) ≡ Ok n
        → (on_line l.number x >>= λ next. lines_at next ls end) ≡ lines_at n [] end
    go rest (Ok next) h = rest next h
    go rest (Err k) h = absurd cc

-- the lines of a text that has these rows
pub same_lines :
    (ls : List Line) (end : ℕ) (rs : List Words) → items (lines_places ls end) ≡ lines_items rs ++ text_end ∷ []
    → words_of ls ≡ rs
same_lines ls end rs e = same_rows (words_of ls) rs (sym (text_items ls end) ∙ e)

spelled_read :
    (bytes : List ℕ) (s : SetupText) → SetupStands s → items (text_places bytes) ≡ setup_items s
    → setup_at (unread bytes) ≡ Ok (setup_of s)
unfolding lines_at
spelled_read bytes s stands e =
    let u = unread bytes in
    lines_read start (ended (setup_of s)) u.lines u.end
    (ap (read_rows line_at start) (same_lines u.lines u.end (setup_rows s) e) ∙ setup_read s stands)

pub is_read :
    (bytes : List ℕ) (r : Result Setup SetupFault) → Answers (λ s. s) r (setup_at (unread bytes)) → (s : SetupText)
    → SetupStands s → items (text_places bytes) ≡ setup_items s → IsReadAs (λ s. s) r (setup_of s)
is_read bytes (Ok x) given s stands e =
    let both : ◌≡◌ {A = Result Setup Fault} (Ok x) (Ok (setup_of s)) = sym given ∙ spelled_read bytes s stands e in cc
is_read bytes (Err faults.NoMemory) given s stands e = tt
is_read bytes (Err (faults.Bad line kind)) given s stands e =
    let both : ◌≡◌ {A = Result Setup Fault} (Err (record { line = line; kind = kind })) (Ok (setup_of s)) =
    sym given ∙ spelled_read bytes s stands e in
    absurd cc

-- ---- what was written

-- rows that are read one after another, numbered in front of other lines
rows_read :
    (m n : Mode) (k : ℕ) (rs : List Words) (back : List Line) (end : ℕ) → read_rows line_at m rs ≡ Ok n
    → lines_at m (numbered_rows k rs back) end ≡ lines_at n back end
unfolding lines_at
rows_read m n k [] back end e = let same : m ≡ n = cc in ap (λ (x : Mode). lines_at x back end) same
rows_read m n k (r ∷ rs) back end e = go (λ next h. rows_read next n (k + 1) rs back end h) (line_at m r) e
  where
    go :
        ((next : Mode) → read_rows line_at next rs ≡ Ok n
        → lines_at next (numbered_rows (k + 1) rs back) end ≡ lines_at n back end) → (x : Result Mode SetupKind)
        → (x >>= λ next. read_rows line_at next rs) ≡ Ok n
        → (on_line k x >>= λ next. lines_at next (numbered_rows (k + 1) rs back) end) ≡ lines_at n back end
    go rest (Ok next) h = rest next h
    go rest (Err kind) h = absurd cc

written_read :
    (s : Setup) (rest : List ℕ) → IsWholeSetup s
    → setup_at (unread (written_setup s ++ rest))
    ≡ lines_at (ended s) (lines_behind s rest) (unread (written_setup s ++ rest)).end
unfolding written_setup
written_read s rest h =
    let rs : List Words = setup_rows (text_of s) in
    let end : ℕ = (unread (written_setup s ++ rest)).end in
    let n : 1 + length rs ≡ length rs + 1 = omega arith in
    ap (λ (v : List Line). lines_at start v end) (lines_numbered rs 1 rest (setup_plain (text_of s) (fits s h)))
    ∙ (rows_read start (ended (setup_of (text_of s))) 1 rs (numbered (1 + length rs) (lines rest)) end
    (setup_read (text_of s) (stands s h))
    ∙ (ap (λ (k : ℕ). lines_at (ended (setup_of (text_of s))) (numbered k (lines rest)) end) n
    ∙ ap (λ (x : Setup). lines_at (ended x) (lines_behind s rest) end) (value_again s h)))

pub is_read_again :
    (bytes : List ℕ) (r : Result Setup SetupFault) → Answers (λ s. s) r (setup_at (unread bytes))
    → (s : Setup) (rest : List ℕ) → IsWholeSetup s → bytes ≡ written_setup s ++ rest
    → IsReadBefore (lines_behind s rest) r s
unfolding lines_at
is_read_again bytes r given s rest h e =
    go (lines_behind s rest) r given (ap (λ (v : List ℕ). setup_at (unread v)) e ∙ written_read s rest h)
  where
    go :
        (ls : List Line) (r : Result Setup SetupFault) → Answers (λ s. s) r (setup_at (unread bytes))
        → setup_at (unread bytes) ≡ lines_at (ended s) ls (unread (written_setup s ++ rest)).end → IsReadBefore ls r s
    go [] (Ok x) given k = let both : ◌≡◌ {A = Result Setup Fault} (Ok x) (Ok s) = sym given ∙ k in cc
    go [] (Err faults.NoMemory) given k = tt
    go [] (Err (faults.Bad line kind)) given k =
        let both : ◌≡◌ {A = Result Setup Fault} (Err (record { line = line; kind = kind })) (Ok s) = sym given ∙ k in
        absurd cc
    go (l ∷ ls) (Ok x) given k =
        let both : ◌≡◌ {A = Result Setup Fault} (Ok x) (Err (record { line = l.number; kind = UnknownWord })) =
        sym given ∙ k in
        absurd cc
    go (l ∷ ls) (Err faults.NoMemory) given k = tt
    go (l ∷ ls) (Err (faults.Bad line kind)) given k =
        let both : ◌≡◌ {A = Result Setup Fault} (Err (record { line = line; kind = kind }))
        (Err (record { line = l.number; kind = UnknownWord })) = sym given ∙ k in
        let same : record { line = line; kind = kind } ≡ record { line = l.number; kind = UnknownWord } = cc in
        (ap (λ (f : Fault). f.line) same, ap (λ (f : Fault). f.kind) same)
