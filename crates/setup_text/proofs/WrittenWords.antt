-- The words of memory that are written spell the words of memory.
use Rattle.std.proofs.Common.{◌≡◌, ℕ, ◌+◌, ◌*◌, ◌<◌, ◌≤◌, ◌^◌, Bool, true, false, cond, eqb, List, [], ◌∷◌, ◌++◌, length, refl, sym, ap, ◌∙◌, append_assoc, arith}
use Rattle.std.specs.Prelude.{slice_set, replicate, All}
use Rattle.std.specs.List.{AllByRecursion}
use Rattle.std.proofs.lemmas.Bool.{eqb-true}
use Rattle.std.proofs.lemmas.List.{length-append}
use Rattle.std.proofs.lemmas.List.Elements.{All-tail}
use Rattle.setup_text.specs.Spelling.{WordFits}
use Rattle.setup_text.specs.Values.{words_set, memory_of}
use Rattle.setup_text.specs.Writing.{words_from}

-- what holds of each element by its place
pub each : {X : Type 0} (P : X → Type 0) (xs : List X) → All P xs → AllByRecursion P xs
each P [] h = tt
each P (x ∷ xs) h = (h 0 x (omega arith), each P xs (All-tail P x xs h))

set_behind : (done rest : List ℕ) (x w : ℕ) → slice_set (done ++ x ∷ rest) (length done) w ≡ done ++ w ∷ rest
set_behind [] rest x w = refl
set_behind (d ∷ done) rest x w = ap (λ (v : List ℕ). d ∷ v) (set_behind done rest x w)

-- words of 0 become the words of memory, those of 0 without a line
set_all :
    (done m : List ℕ) (addr : ℕ) → length done ≡ addr
    → words_set (done ++ replicate (length m) 0) (words_from addr m) ≡ done ++ m
set_all done [] addr at = refl
set_all done (w ∷ m) addr at =
    let long : length (done ++ w ∷ []) ≡ addr + 1 = omega (arith, length-append done (w ∷ [])) in
    let whole : (done ++ w ∷ []) ++ m ≡ done ++ w ∷ m = append_assoc done (w ∷ []) m in
    let rest : words_set (done ++ w ∷ replicate (length m) 0) (words_from (addr + 1) m) ≡ done ++ w ∷ m =
    ap (λ (v : List ℕ). words_set v (words_from (addr + 1) m))
    (sym (append_assoc done (w ∷ []) (replicate (length m) 0)))
    ∙ (set_all (done ++ w ∷ []) m (addr + 1) long ∙ whole) in
    let set : slice_set (done ++ 0 ∷ replicate (length m) 0) addr w ≡ done ++ w ∷ replicate (length m) 0 =
    ap (λ (n : ℕ). slice_set (done ++ 0 ∷ replicate (length m) 0) n w) (sym at)
    ∙ set_behind done (replicate (length m) 0) 0 w in
    go (eqb w 0) refl rest set
  where
    go :
        (b : Bool) → eqb w 0 ≡ b
        → words_set (done ++ w ∷ replicate (length m) 0) (words_from (addr + 1) m) ≡ done ++ w ∷ m
        → slice_set (done ++ 0 ∷ replicate (length m) 0) addr w ≡ done ++ w ∷ replicate (length m) 0
        → words_set (done ++ 0 ∷ replicate (length m) 0)
        (cond b (words_from (addr + 1) m) ((addr, w) ∷ words_from (addr + 1) m)) ≡ done ++ w ∷ m
    go true h rest set =
        ap (λ (n : ℕ). words_set (done ++ n ∷ replicate (length m) 0) (words_from (addr + 1) m)) (sym (eqb-true w 0 h))
        ∙ rest
    go false h rest set = ap (λ (v : List ℕ). words_set v (words_from (addr + 1) m)) set ∙ rest

pub memory_again : (m : List ℕ) (n : ℕ) → length m ≡ 4 * n → memory_of n (words_from 0 m) ≡ m
memory_again m n long = ap (λ (k : ℕ). words_set (replicate k 0) (words_from 0 m)) (sym long) ∙ set_all [] m 0 refl

-- each line names a word of memory
pub words_within :
    (addr end : ℕ) (m : List ℕ) → addr + length m ≤ end → AllByRecursion (λ (w : ℕ × ℕ). w.0 < end) (words_from addr m)
words_within addr end [] le = tt
words_within addr end (w ∷ m) le = go (eqb w 0) (words_within (addr + 1) end m (omega arith))
  where
    go :
        (b : Bool) → AllByRecursion (λ (w : ℕ × ℕ). w.0 < end) (words_from (addr + 1) m)
        → AllByRecursion (λ (w : ℕ × ℕ). w.0 < end)
        (cond b (words_from (addr + 1) m) ((addr, w) ∷ words_from (addr + 1) m))
    go true rest = rest
    go false rest = (omega arith, rest)

pub words_fit :
    (addr : ℕ) (m : List ℕ) → addr + length m ≤ 2 ^ 32 → AllByRecursion (λ w. w < 2 ^ 32) m
    → AllByRecursion WordFits (words_from addr m)
words_fit addr [] le small = tt
words_fit addr (w ∷ m) le small = go (eqb w 0) (words_fit (addr + 1) m (omega arith) small.1)
  where
    go :
        (b : Bool) → AllByRecursion WordFits (words_from (addr + 1) m)
        → AllByRecursion WordFits (cond b (words_from (addr + 1) m) ((addr, w) ∷ words_from (addr + 1) m))
    go true rest = rest
    go false rest = ((omega arith, small.0), rest)
