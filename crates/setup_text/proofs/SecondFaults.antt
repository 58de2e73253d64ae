-- Where the line after the `memory` line is refused; one that is read fails no side condition.
use Rattle.std.proofs.Common.{◌≡◌, ℕ, Bool, true, false, cond, List, [], ◌∷◌, ◌++◌, Result, Ok, Err, refl, sym, ap, subst, ◌∙◌}
use Rattle.std.specs.Prelude.{codes}
use Rattle.std.specs.Str.{bytes_eq}
use Rattle.fb_text.specs.Places.{Words, Place}
use Rattle.fb_text.proofs.LineLaws.{FreeFront}
use Rattle.table_text.specs.Reading.{◌>>=◌}
use Rattle.setup_text.specs.declared.fault.SetupKind.{SetupKind}
use Rattle.setup_text.specs.declared.fault.SetupKind.TheVariants.{UnknownWord}
use Rattle.setup_text.specs.Spelling.{SetupText, arbiter_row, open_rows}
use Rattle.setup_text.specs.Values.{setup_of}
use Rattle.setup_text.specs.Standing.{StandsSoFar}
use Rattle.setup_text.specs.Grammars.{BreaksSetup}
use Rattle.setup_text.specs.Drafts.{with_fair}
use Rattle.setup_text.specs.Reading.{Mode, body, body_line, this_word, line_ends, arbiter_line, second_line}
use Rattle.setup_text.proofs.LineWords.{binds, is_word, word_read, nothing_read}
use Rattle.setup_text.proofs.Parts.{text}
use Rattle.setup_text.proofs.Follows.{next_arbiter, begins_by}
use Rattle.setup_text.proofs.LineFaults.{FreeHere, free_nil, free_push, free_from, arbiter_is_free, Begins, Faulty, refused_at, Refused, WordTail, EndTail, word_refused, end_refused, only_arbiter}
use Rattle.setup_text.proofs.BodyFaults.{body_stops, body_passes}

module _ (rest : List Place) (line : ℕ) where
  module _ (n : ℕ) (h : StandsSoFar (text (n, false) [] [] [])) where
    abbrev bare : SetupText
    bare = text (n, false) [] [] []

    begins_arbiter : (front more : Words) → arbiter_row ≡ front ++ more → Begins (text (n, false) [] [] []) front
    begins_arbiter front more e =
        begins_by (open_rows (text (n, false) [] [] [])) arbiter_row front more (next_arbiter n h.fits) e

    arbiter_free : FreeHere (text (n, false) [] [] []) (codes "arbiter" ∷ [])
    arbiter_free = free_push bare [] (codes "arbiter") (free_nil bare) (arbiter_is_free bare)

    row_free : FreeHere (text (n, false) [] [] []) arbiter_row
    row_free = free_push bare (codes "arbiter" ∷ []) (codes "fair") arbiter_free (λ k j. j)

    behind_row :
        (us : Words) (k : SetupKind) → line_ends us ≡ Err k
        → Faulty (text (n, false) [] [] []) line (codes "arbiter" ∷ codes "fair" ∷ us) rest k
    behind_row us k e =
        refused_at bare line (codes "arbiter" ∷ codes "fair" ∷ us) rest arbiter_row us EndTail k UnknownWord h refl
        (begins_arbiter arbiter_row [] refl) row_free (end_refused us k e)
        (λ t others f.
        (let is : codes "fair" ∷ t ≡ codes "fair" ∷ [] = only_arbiter bare (codes "fair" ∷ t) others f in
        let none : t ≡ [] = cc in none)) refl refl

    arbiter_stops :
        (l : Words) (k : SetupKind) → arbiter_line (setup_of (text (n, false) [] [] [])) l ≡ Err k
        → Faulty (text (n, false) [] [] []) line (codes "arbiter" ∷ l) rest k
    unfolding arbiter_line
    arbiter_stops l k e = go (this_word (codes "fair") l) refl e
      where
        ending :
            (us : Words) (x : Result (Unit {0}) SetupKind) → line_ends us ≡ x
            → (x >>= λ _. Ok (body (with_fair (setup_of (text (n, false) [] [] []))))) ≡ Err k
            → Faulty (text (n, false) [] [] []) line (codes "arbiter" ∷ codes "fair" ∷ us) rest k
        ending us (Ok y) r e = absurd cc
        ending us (Err j) r e =
            let same : j ≡ k = cc in behind_row us k (r ∙ ap (λ (x : SetupKind). Err x) same)

        go :
            (x : Result Words SetupKind) → this_word (codes "fair") l ≡ x
            → (x >>=
            λ after. line_ends after >>= λ _. Ok (body (with_fair (setup_of (text (n, false) [] [] []))))) ≡ Err k
            → Faulty (text (n, false) [] [] []) line (codes "arbiter" ∷ l) rest k
        go (Ok us) r e =
            subst (λ (x : Words). Faulty (text (n, false) [] [] []) line (codes "arbiter" ∷ x) rest k)
            (sym (word_read (codes "fair") l us r)) (ending us (line_ends us) refl e)
        go (Err j) r e =
            let same : j ≡ k = cc in
            refused_at bare line (codes "arbiter" ∷ l) rest (codes "arbiter" ∷ []) l (WordTail (codes "fair")) k
            UnknownWord h refl (begins_arbiter (codes "arbiter" ∷ []) (codes "fair" ∷ []) refl) arbiter_free
            (subst (λ (x : SetupKind). Refused (WordTail (codes "fair")) l x UnknownWord) same
            (word_refused (codes "fair") l j r))
            (λ t others f. ([], only_arbiter bare t others f)) refl refl

    arbiter_passes :
        (l : Words) (m : Mode) → arbiter_line (setup_of (text (n, false) [] [] [])) l ≡ Ok m
        → FreeFront BreaksSetup (open_rows (text (n, false) [] [] [])) (codes "arbiter" ∷ l)
    unfolding arbiter_line
    arbiter_passes l m e =
        let setup = setup_of (text (n, false) [] [] []) in
        let a = binds (this_word (codes "fair") l) (λ after. line_ends after >>= λ _. Ok (body (with_fair setup))) m e
        in
        let b = binds (line_ends a.value) (λ _. Ok (body (with_fair setup))) m a.then in
        let is : l ≡ codes "fair" ∷ [] =
        word_read (codes "fair") l a.value a.here
        ∙ ap (λ (u : Words). codes "fair" ∷ u) (nothing_read a.value b.value b.here) in
        subst (λ (x : Words). FreeFront BreaksSetup (open_rows (text (n, false) [] [] [])) (codes "arbiter" ∷ x))
        (sym is) (free_from bare arbiter_row h row_free)

  -- A line that was refused.
  pub second_stops :
      (n : ℕ) (l : Words) (k : SetupKind) → StandsSoFar (text (n, false) [] [] [])
      → second_line (setup_of (text (n, false) [] [] [])) l ≡ Err k
      → Faulty (text (n, false) [] [] []) line l rest k
  unfolding second_line body_line
  second_stops n [] k h e = body_stops rest line (n, false) [] [] [] [] k (λ b. refl) h e
  second_stops n (w ∷ l) k h e = go (bytes_eq w (codes "arbiter")) refl e
    where
      go :
          (b : Bool) → bytes_eq w (codes "arbiter") ≡ b
          → cond b (arbiter_line (setup_of (text (n, false) [] [] [])) l)
          (body_line (setup_of (text (n, false) [] [] [])) (w ∷ l)) ≡ Err k
          → Faulty (text (n, false) [] [] []) line (w ∷ l) rest k
      go true t e =
          subst (λ (x : List ℕ). Faulty (text (n, false) [] [] []) line (x ∷ l) rest k)
          (sym (is_word w (codes "arbiter") t)) (arbiter_stops n h l k e)
      go false t e = body_stops rest line (n, false) [] [] [] (w ∷ l) k (λ b. t) h e

  -- A line that was read.
  pub second_passes :
      (n : ℕ) (l : Words) (m : Mode) → StandsSoFar (text (n, false) [] [] [])
      → second_line (setup_of (text (n, false) [] [] [])) l ≡ Ok m
      → FreeFront BreaksSetup (open_rows (text (n, false) [] [] [])) l
  unfolding second_line
  second_passes n [] m h e = absurd cc
  second_passes n (w ∷ l) m h e = go (bytes_eq w (codes "arbiter")) refl e
    where
      go :
          (b : Bool) → bytes_eq w (codes "arbiter") ≡ b
          → cond b (arbiter_line (setup_of (text (n, false) [] [] [])) l)
          (body_line (setup_of (text (n, false) [] [] [])) (w ∷ l)) ≡ Ok m
          → FreeFront BreaksSetup (open_rows (text (n, false) [] [] [])) (w ∷ l)
      go true t e =
          subst (λ (x : List ℕ). FreeFront BreaksSetup (open_rows (text (n, false) [] [] [])) (x ∷ l))
          (sym (is_word w (codes "arbiter") t)) (arbiter_passes n h l m e)
      go false t e = body_passes rest line (n, false) [] [] [] (w ∷ l) m h e
