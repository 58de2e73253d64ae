-- Where a board line is refused; one that is read fails no side condition.
use Rattle.std.proofs.Common.{◌≡◌, ◌≢◌, ℕ, ◌+◌, ◌<◌, ◌≤◌, inl, inr, Bool, true, false, cond, ltb, eqb, List, [], ◌∷◌, ◌++◌, length, Result, Ok, Err, refl, sym, ap, subst, ◌∙◌, arith}
use Rattle.std.specs.Prelude.{codes, decimal}
use Rattle.std.proofs.lemmas.Bool.{ltb-true, ltb-false, eqb-true, eqb-false}
use Rattle.fb_text.specs.Places.{Words, Place}
use Rattle.table_check.specs.declared.boards.BoardSpec.{BoardSpec}
use Rattle.table_text.specs.Reading.{◌>>=◌}
use Rattle.setup_text.specs.declared.fault.LimitOf.TheVariants.{Boards}
use Rattle.setup_text.specs.declared.fault.SetupKind.{SetupKind}
use Rattle.setup_text.specs.declared.fault.SetupKind.TheVariants.{Number, Limit}
use Rattle.setup_text.specs.Spelling.{SetupText, open_rows, end_row, shape_words, choose_words}
use Rattle.setup_text.specs.Values.{setup_of}
use Rattle.setup_text.specs.Standing.{StandsSoFar}
use Rattle.setup_text.specs.Drafts.{with_board}
use Rattle.setup_text.specs.Reading.{Mode, body, number_at, number_from_one, this_word, next_place, place_at, new_number, board_number_at, board_front, board_table, board_back, board_spec, board_line, board_added, shape_at}
use Rattle.setup_text.proofs.LineWords.{binds, passes, number_read, front_read, table_read, shape_read, back_read}
use Rattle.setup_text.proofs.Follows.{next_end, begins_by}
use Rattle.setup_text.proofs.LineFaults.{decimal_same, FreeHere, free_nil, Faulty, judged_at, Refused, NumberTail, number_refused, refused_at}
use Rattle.setup_text.proofs.BoardFaults.{b1, begins_place, begins_word, expects_place}
use Rattle.setup_text.proofs.BoardStops.{boards_of, Fresh, free_1, board_free, table_stops, word_stops}

place_read : (boards : ℕ) (ws us : Words) → place_at boards ws ≡ Ok us → ws ≡ decimal (boards + 1) ∷ us
unfolding place_at
place_read boards ws us e =
    let a = binds (number_at 4294967295 ws) (next_place boards) us e in
    let r = number_read 4294967295 ws a.value (omega arith) a.here in
    let q = passes (eqb a.value.0 (boards + 1)) a.value.1 us Number a.then in
    r.0
    ∙ (ap (λ (x : ℕ). decimal x ∷ a.value.1) (eqb-true a.value.0 (boards + 1) q.0)
    ∙ ap (λ (x : Words). decimal (boards + 1) ∷ x) q.1)

abbrev fronted_by : SetupText → Result (ℕ × Words) SetupKind → Result BoardSpec SetupKind
fronted_by s x =
    x >>= λ n.
    board_table (setup_of s).tables n.1 >>=
    λ t. shape_at t.1 t.2 >>= λ shape. board_back shape.1 >>= λ choose. Ok (board_spec n.0 t.0 shape.0 choose)

abbrev added_by : SetupText → Result BoardSpec SetupKind → Result Mode SetupKind
added_by s x = x >>= λ spec. Ok (body (with_board (setup_of s) spec))

abbrev numbered_by : SetupText → Result Words SetupKind → Result (ℕ × Words) SetupKind
numbered_by s x =
    x >>=
    λ number. this_word (codes "number") number >>= λ after. number_from_one 1023 after >>= new_number (boards_of s)

module _ (s : SetupText) (h : StandsSoFar s) (rest : List Place) (line : ℕ) where
  module _ (few : length (boards_of s) < 16) where
    place_stops :
        (ws : Words) (k : SetupKind) → place_at (length (boards_of s)) ws ≡ Err k → Faulty s line (b1 ++ ws) rest k
    unfolding place_at
    place_stops ws k e = go (number_at 4294967295 ws) refl e
      where
        other :
            (p : ℕ) (us : Words) → p ≤ 4294967295 → ws ≡ decimal p ∷ us → eqb p (length (boards_of s) + 1) ≡ false
            → Number ≡ k → Faulty s line (b1 ++ ws) rest k
        other p us high at off same =
            judged_at s line (b1 ++ ws) rest b1 (decimal p) us k h (ap (λ (x : Words). b1 ++ x) at) (begins_word s h)
            (begins_place s p h (omega arith)) (free_1 s few) (differs, sym same)
          where
            differs : decimal p ≢ decimal (length (boards_of s) + 1)
            differs x =
                eqb-false p (length (boards_of s) + 1) off
                (decimal_same p (length (boards_of s) + 1) (omega arith) (omega arith) x)

        test :
            (p : ℕ) (us : Words) → p ≤ 4294967295 → ws ≡ decimal p ∷ us → (x : Bool)
            → eqb p (length (boards_of s) + 1) ≡ x → cond x (Ok us) (Err Number) ≡ Err k
            → Faulty s line (b1 ++ ws) rest k
        test p us high at true r e = absurd cc
        test p us high at false r e = other p us high at r cc

        go :
            (x : Result (ℕ × Words) SetupKind) → number_at 4294967295 ws ≡ x
            → (x >>= next_place (length (boards_of s))) ≡ Err k → Faulty s line (b1 ++ ws) rest k
        go (Ok (p, us)) r e =
            let read = number_read 4294967295 ws (p, us) (omega arith) r in
            test p us read.1 read.0 (eqb p (length (boards_of s) + 1)) refl e
        go (Err j) r e =
            let same : j ≡ k = cc in
            refused_at s line (b1 ++ ws) rest b1 ws (NumberTail 0 4294967295) k Number h refl (begins_word s h)
            (free_1 s few)
            (subst (λ (x : SetupKind). Refused (NumberTail 0 4294967295) ws x Number) same
            (number_refused 4294967295 ws j (omega arith) r)) (λ t others g. expects_place s t others g) refl
            refl

    front_stops : (ws : Words) (k : SetupKind) → board_front (boards_of s) ws ≡ Err k → Faulty s line (b1 ++ ws) rest k
    unfolding board_front board_number_at
    front_stops ws k e = go (place_at (length (boards_of s)) ws) refl e
      where
        go :
            (x : Result Words SetupKind) → place_at (length (boards_of s)) ws ≡ x → numbered_by s x ≡ Err k
            → Faulty s line (b1 ++ ws) rest k
        go (Ok us) r e =
            subst (λ (x : Words). Faulty s line (b1 ++ x) rest k) (sym (place_read (length (boards_of s)) ws us r))
            (word_stops s h rest line few (length (boards_of s) + 1) refl us k e)
        go (Err j) r e = let same : j ≡ k = cc in place_stops ws k (r ∙ ap (λ (x : SetupKind). Err x) same)

    line_stops : (ws : Words) (k : SetupKind) → board_line (setup_of s) ws ≡ Err k → Faulty s line (b1 ++ ws) rest k
    unfolding board_line
    line_stops ws k e = go (board_front (boards_of s) ws) refl e
      where
        go :
            (x : Result (ℕ × Words) SetupKind) → board_front (boards_of s) ws ≡ x → fronted_by s x ≡ Err k
            → Faulty s line (b1 ++ ws) rest k
        go (Ok (n, us)) r e =
            let f = front_read (boards_of s) ws (n, us) r in
            subst (λ (x : Words). Faulty s line (b1 ++ x) rest k) (sym f.words)
            (table_stops s h rest line few (length (boards_of s) + 1) refl n us k f.low f.high f.new e)
        go (Err j) r e = let same : j ≡ k = cc in front_stops ws k (r ∙ ap (λ (x : SetupKind). Err x) same)

  -- A board line that was refused, after its first word.
  pub board_stops : (ws : Words) (k : SetupKind) → board_added (setup_of s) ws ≡ Err k → Faulty s line (b1 ++ ws) rest k
  board_stops ws k e = room (ltb (length (boards_of s)) 16) refl e
    where
      full : 16 ≤ length (boards_of s) → Limit Boards 17 ≡ k → Faulty s line (b1 ++ ws) rest k
      full many same =
          let sound = h.sound in
          let high = sound.boards_high in
          let all : length (boards_of s) ≡ 16 = omega arith in
          judged_at s line (b1 ++ ws) rest [] (codes "board") ws k h refl
          (begins_by (open_rows s) end_row [] end_row (next_end s h.fits) refl) (begins_word s h) (free_nil s)
          (inr (inl (refl, all, sym same)))

      inner :
          length (boards_of s) < 16 → (x : Result BoardSpec SetupKind) → board_line (setup_of s) ws ≡ x
          → added_by s x ≡ Err k → Faulty s line (b1 ++ ws) rest k
      inner few (Ok spec) r e = absurd cc
      inner few (Err j) r e = let same : j ≡ k = cc in line_stops few ws k (r ∙ ap (λ (x : SetupKind). Err x) same)

      room :
          (x : Bool) → ltb (length (boards_of s)) 16 ≡ x
          → cond x (added_by s (board_line (setup_of s) ws)) (Err (Limit Boards 17)) ≡ Err k
          → Faulty s line (b1 ++ ws) rest k
      room true r e = inner (ltb-true (length (boards_of s)) 16 r) (board_line (setup_of s) ws) refl e
      room false r e = full (ltb-false (length (boards_of s)) 16 r) cc

  -- A board line that was read, after its first word.
  pub board_passes : (ws : Words) (m : Mode) → board_added (setup_of s) ws ≡ Ok m → FreeHere s (b1 ++ ws)
  unfolding board_line
  board_passes ws m e = room (ltb (length (boards_of s)) 16) refl e
    where
      room :
          (x : Bool) → ltb (length (boards_of s)) 16 ≡ x
          → cond x (added_by s (board_line (setup_of s) ws)) (Err (Limit Boards 17)) ≡ Ok m → FreeHere s (b1 ++ ws)
      room false r e = absurd cc
      room true r e =
          let all = binds (board_line (setup_of s) ws) (λ spec. Ok (body (with_board (setup_of s) spec))) m e in
          let a = binds (board_front (boards_of s) ws)
          (λ k.
          board_table (setup_of s).tables k.1 >>=
          λ t.
          shape_at t.1 t.2 >>=
          λ shape. board_back shape.1 >>= λ choose. Ok (board_spec k.0 t.0 shape.0 choose))
          all.value all.here in
          let b = binds (board_table (setup_of s).tables a.value.1)
          (λ t.
          shape_at t.1 t.2 >>=
          λ shape. board_back shape.1 >>= λ choose. Ok (board_spec a.value.0 t.0 shape.0 choose)) all.value
          a.then in
          let c = binds (shape_at b.value.1 b.value.2)
          (λ shape. board_back shape.1 >>= λ choose. Ok (board_spec a.value.0 b.value.0 shape.0 choose)) all.value
          b.then in
          let d = binds (board_back c.value.1) (λ choose. Ok (board_spec a.value.0 b.value.0 c.value.0 choose))
          all.value c.then in
          let f = front_read (boards_of s) ws a.value a.here in
          let t = table_read (setup_of s).tables a.value.1 b.value b.here in
          let shape = shape_read b.value.1 b.value.2 c.value c.here in
          let choose = back_read c.value.1 d.value d.here in
          let few : length (boards_of s) < 16 = ltb-true (length (boards_of s)) 16 r in
          let words : ws
          ≡ decimal (length (boards_of s) + 1) ∷ codes "number" ∷ decimal a.value.0 ∷ codes "table" ∷ t.name
          ∷ (shape_words c.value.0 ++ codes "choose" ∷ choose_words d.value) =
          f.words
          ∙ ap (λ (u : Words). decimal (length (boards_of s) + 1) ∷ codes "number" ∷ decimal a.value.0 ∷ u)
          (t.words
          ∙ ap (λ (u : Words). codes "table" ∷ t.name ∷ u)
          (shape.0 ∙ ap (λ (u : Words). shape_words c.value.0 ++ u) choose.0)) in
          let fresh : Fresh s (length (boards_of s) + 1) a.value.0 t.name (b.value.0, b.value.1) =
          record { few = few; place = refl; low = f.low; high = f.high; new = f.new; is = t.named_; at = t.found }
          in
          subst (λ (x : Words). FreeHere s (b1 ++ x)) (sym words)
          (board_free s (length (boards_of s) + 1) a.value.0 t.name (b.value.0, b.value.1) c.value.0 d.value h fresh
          shape.1 shape.2)
