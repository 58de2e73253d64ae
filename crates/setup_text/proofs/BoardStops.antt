-- Where a board line stops.
use Rattle.std.proofs.Common.{◌≡◌, ℕ, ◌+◌, ◌*◌, ◌<◌, ◌≤◌, ◌^◌, inl, inr, Bool, true, false, cond, ltb, List, [], ◌∷◌, ◌++◌, map, length, Option, Some, None, Result, Ok, Err, refl, sym, ap, subst, ◌∙◌, append_assoc, arith, Contains}
use Rattle.std.specs.Prelude.{codes, decimal}
use Rattle.std.specs.Str.{bytes_eq}
use Rattle.std.proofs.lemmas.Bool.{ltb-true}
use Rattle.std.proofs.lemmas.List.{append-nil}
use Rattle.fb_text.specs.Places.{Words, Place}
use Rattle.class_relation.specs.Names.{is_name}
use Rattle.table_check.specs.declared.boards.BoardSpec.{BoardSpec}
use Rattle.table_check.specs.declared.boards.Choose.{Choose}
use Rattle.table_check.specs.declared.boards.Choose.TheVariants.{First, Round, Seed}
use Rattle.table_check.specs.declared.boards.Shape.{Shape}
use Rattle.table_check.specs.declared.boards.Shape.TheVariants.{Plain, Cached}
use Rattle.table_check.proofs.Reaching.{reached-test, test-reached}
use Rattle.table_text.specs.Reading.{◌>>=◌}
use Rattle.setup_text.specs.declared.fault.LimitOf.TheVariants.{Frames}
use Rattle.setup_text.specs.declared.fault.SetupKind.{SetupKind}
use Rattle.setup_text.specs.declared.fault.SetupKind.TheVariants.{UnknownWord, Number, TwiceNumber, NoTable, NoFrames, Limit}
use Rattle.setup_text.specs.Spelling.{SetupText, shape_words, choose_words, ShapeFits, ChooseFits}
use Rattle.setup_text.specs.Values.{setup_of}
use Rattle.setup_text.specs.Standing.{StandsSoFar}
use Rattle.setup_text.specs.Grammars.{slot_of, JudgedAs, JudgedShape, JudgedNumber, unfit_word, unfit_end}
use Rattle.setup_text.specs.Drafts.{named, found_name, IsShape}
use Rattle.setup_text.specs.Reading.{number_at, number_from_one, this_word, line_ends, name_at, has_number, new_number, known_name, table_name_at, board_table, board_back, board_spec, choose_at, seeded, framed, frames_at, shape_at}
use Rattle.setup_text.proofs.LineWords.{from_one_read, word_read, name_read, choose_read, shape_read, is_word}
use Rattle.setup_text.proofs.HeadLines.{found_contains, none_contains}
use Rattle.setup_text.proofs.Follows.{Follows}
use Rattle.setup_text.proofs.LineFaults.{decimal_same, FreeHere, free_nil, free_push, board_is_free, Begins, Faulty, judged_at, Refused, NumberTail, WordTail, NameTail, EndTail, number_refused, from_one_refused, word_refused, end_refused, name_refused, refused_at, differ}
use Rattle.setup_text.proofs.BoardFaults.{found_table, found_same, reaches_other, stays_only, numbers_of, has_contains, new_contains, b1, b2, b3, b4, b5, b6, begins_place, begins_number_word, begins_number, begins_table_word, begins_behind, expects_number_word, expects_number, expects_table_word, expects_name, RestTail, expects_rest, ShapeTail, shape_tail, sets_tail, ways_tail, ChoiceTail, choice_tail, ChooserTail, chooser_tail, seed_tail, done_tail}

abbrev pub boards_of : SetupText → List BoardSpec
boards_of s = (setup_of s).boards

abbrev seeded_by : Result (ℕ × Words) SetupKind → Result (Choose × Words) SetupKind
seeded_by x = x >>= λ n. Ok (Seed n.0, n.1)

abbrev fits_by : ℕ → ℕ → Words → Result (Shape × Words) SetupKind
fits_by a b vs = Ok (Cached a b, vs)

abbrev plain_by : Words → Result (Shape × Words) SetupKind
plain_by ws = Ok (Plain, ws)

abbrev number_by : ℕ → Words → Result (ℕ × Words) SetupKind
number_by n us = Ok (n, us)

abbrev spec_by : ℕ → ℕ → Shape → Result Choose SetupKind → Result BoardSpec SetupKind
spec_by n table shape x = x >>= λ choose. Ok (board_spec n table shape choose)

abbrev shaped_by : ℕ → ℕ → Result (Shape × Words) SetupKind → Result BoardSpec SetupKind
shaped_by n table x = x >>= λ shape. board_back shape.1 >>= λ choose. Ok (board_spec n table shape.0 choose)

abbrev pub tabled_by : ℕ → Result (ℕ × Bool × Words) SetupKind → Result BoardSpec SetupKind
tabled_by n x =
    x >>= λ t. shape_at t.1 t.2 >>= λ shape. board_back shape.1 >>= λ choose. Ok (board_spec n t.0 shape.0 choose)

-- what was read of a board line up to the name of its table
pub record Fresh (s : SetupText) (p n : ℕ) (name : List ℕ) (found : ℕ × Bool) : Type 0 where
  pub few : length (boards_of s) < 16
  pub place : p ≡ length (boards_of s) + 1
  pub low : 1 ≤ n
  pub high : n ≤ 1023
  pub new : has_number (boards_of s) n ≡ false
  pub is : is_name name ≡ true
  pub at : found_name (map named (setup_of s).tables) name ≡ Some found

-- ---- words that fail no side condition

pub free_1 : (s : SetupText) → length (boards_of s) < 16 → FreeHere s b1
free_1 s few = free_push s [] (codes "board") (free_nil s) (board_is_free s few)

free_2 : (s : SetupText) (p : ℕ) → length (boards_of s) < 16 → p ≡ length (boards_of s) + 1 → FreeHere s (b2 p)
free_2 s p few e = free_push s b1 (decimal p) (free_1 s few) (λ k j. j.0 (ap decimal e))

free_3 : (s : SetupText) (p : ℕ) → length (boards_of s) < 16 → p ≡ length (boards_of s) + 1 → FreeHere s (b3 p)
free_3 s p few e = free_push s (b2 p) (codes "number") (free_2 s p few e) (λ k j. j)

free_4 :
    (s : SetupText) (p n : ℕ) → length (boards_of s) < 16 → p ≡ length (boards_of s) + 1 → n ≤ 1023
    → has_number (boards_of s) n ≡ false → FreeHere s (b4 p n)
free_4 s p n few e high new = free_push s (b3 p) (decimal n) (free_3 s p few e) judged
  where
    judged : (k : SetupKind) → JudgedNumber (setup_of s) (decimal n) k → ⊥
    judged k (m, small, is, has, _) =
        let same : n ≡ m = decimal_same n m (omega arith) (omega arith) is in
        new_contains (boards_of s) n new (subst (λ (x : ℕ). Contains (numbers_of (boards_of s)) x) (sym same) has)

free_5 :
    (s : SetupText) (p n : ℕ) → length (boards_of s) < 16 → p ≡ length (boards_of s) + 1 → n ≤ 1023
    → has_number (boards_of s) n ≡ false → FreeHere s (b5 p n)
free_5 s p n few e high new = free_push s (b4 p n) (codes "table") (free_4 s p n few e high new) (λ k j. j)

free_6 :
    (s : SetupText) (p n : ℕ) (name : List ℕ) (found : ℕ × Bool) → Fresh s p n name found → FreeHere s (b6 p n name [])
free_6 s p n name found f =
    free_push s (b5 p n) name (free_5 s p n f.few f.place f.high f.new)
    (λ k j. j.0 (found_contains name (setup_of s).tables found f.at))

free_plain :
    (s : SetupText) (p n : ℕ) (name : List ℕ) (found : ℕ × Bool) → StandsSoFar s → Fresh s p n name found
    → found.1 ≡ true → FreeHere s (b6 p n name (codes "plain" ∷ []))
free_plain s p n name found h f stays = free_push s (b6 p n name []) (codes "plain") (free_6 s p n name found f) judged
  where
    judged : (k : SetupKind) → JudgedShape (setup_of s) (b6 p n name []) (codes "plain") k → ⊥
    judged k (is, t, st, has, same, reached, other, _) =
        let sound = h.sound in
        let tables = sound.tables in
        stays_only t st (found_same name (setup_of s).tables found t tables.names f.at has same ∙ stays)
        (reached-test t st reached) other

free_cached :
    (s : SetupText) (p n : ℕ) (name : List ℕ) (found : ℕ × Bool) → Fresh s p n name found
    → FreeHere s (b6 p n name (codes "cached" ∷ []))
free_cached s p n name found f =
    free_push s (b6 p n name []) (codes "cached") (free_6 s p n name found f) (λ k j. differ j.0 refl)

free_sets :
    (s : SetupText) (p n : ℕ) (name : List ℕ) (found : ℕ × Bool) (a : ℕ) → Fresh s p n name found
    → FreeHere s (b6 p n name (codes "cached" ∷ decimal a ∷ []))
free_sets s p n name found a f =
    free_push s (b6 p n name (codes "cached" ∷ [])) (decimal a) (free_cached s p n name found f) (λ k j. j)

free_ways :
    (s : SetupText) (p n : ℕ) (name : List ℕ) (found : ℕ × Bool) (a b : ℕ) → Fresh s p n name found → a ≤ 256 → b ≤ 256
    → a * b ≤ 256 → FreeHere s (b6 p n name (codes "cached" ∷ decimal a ∷ decimal b ∷ []))
free_ways s p n name found a b f ha hb few =
    free_push s (b6 p n name (codes "cached" ∷ decimal a ∷ [])) (decimal b) (free_sets s p n name found a f) judged
  where
    judged :
        (k : SetupKind)
        → JudgedAs (slot_of (b6 p n name (codes "cached" ∷ decimal a ∷ []))) (setup_of s)
        (b6 p n name (codes "cached" ∷ decimal a ∷ [])) (decimal b) k → ⊥
    judged k (x, y, hx, hy, ex, ey, many, _) =
        let sx : a ≡ x = decimal_same a x (omega arith) (omega arith) ex in
        let sy : b ≡ y = decimal_same b y (omega arith) (omega arith) ey in
        let all : x * y ≤ 256 = rw (← sx, ← sy) few in
        omega arith

free_shape :
    (s : SetupText) (p n : ℕ) (name : List ℕ) (found : ℕ × Bool) (shape : Shape) → StandsSoFar s
    → Fresh s p n name found → ShapeFits shape → IsShape found.1 shape → FreeHere s (b6 p n name (shape_words shape))
free_shape s p n name found Plain h f fits is = free_plain s p n name found h f is
free_shape s p n name found (Cached a b) h f fits is = free_ways s p n name found a b f fits.1 fits.3 is.2

free_choose :
    (s : SetupText) (p n : ℕ) (name : List ℕ) (found : ℕ × Bool) (shape : Shape) → StandsSoFar s
    → Fresh s p n name found → ShapeFits shape → IsShape found.1 shape
    → FreeHere s (b6 p n name (shape_words shape ++ codes "choose" ∷ []))
free_choose s p n name found Plain h f fits is =
    free_push s (b6 p n name (codes "plain" ∷ [])) (codes "choose") (free_shape s p n name found Plain h f fits is)
    (λ k j. j)
free_choose s p n name found (Cached a b) h f fits is =
    free_push s (b6 p n name (codes "cached" ∷ decimal a ∷ decimal b ∷ [])) (codes "choose")
    (free_shape s p n name found (Cached a b) h f fits is) (λ k j. j)

-- one more word of a chooser
free_chosen :
    (s : SetupText) (p n : ℕ) (name : List ℕ) (found : ℕ × Bool) (shape : Shape) (w : List ℕ) → StandsSoFar s
    → Fresh s p n name found → ShapeFits shape → IsShape found.1 shape
    → FreeHere s (b6 p n name (shape_words shape ++ codes "choose" ∷ w ∷ []))
free_chosen s p n name found Plain w h f fits is =
    free_push s (b6 p n name (codes "plain" ∷ codes "choose" ∷ [])) w (free_choose s p n name found Plain h f fits is)
    (λ k j. j)
free_chosen s p n name found (Cached a b) w h f fits is =
    free_push s (b6 p n name (codes "cached" ∷ decimal a ∷ decimal b ∷ codes "choose" ∷ [])) w
    (free_choose s p n name found (Cached a b) h f fits is) (λ k j. j)

free_seed :
    (s : SetupText) (p n : ℕ) (name : List ℕ) (found : ℕ × Bool) (shape : Shape) (w : List ℕ) → StandsSoFar s
    → Fresh s p n name found → ShapeFits shape → IsShape found.1 shape
    → FreeHere s (b6 p n name (shape_words shape ++ codes "choose" ∷ codes "seed" ∷ w ∷ []))
free_seed s p n name found Plain w h f fits is =
    free_push s (b6 p n name (codes "plain" ∷ codes "choose" ∷ codes "seed" ∷ [])) w
    (free_chosen s p n name found Plain (codes "seed") h f fits is) (λ k j. j)
free_seed s p n name found (Cached a b) w h f fits is =
    free_push s (b6 p n name (codes "cached" ∷ decimal a ∷ decimal b ∷ codes "choose" ∷ codes "seed" ∷ [])) w
    (free_chosen s p n name found (Cached a b) (codes "seed") h f fits is) (λ k j. j)

-- A board line that was read fails no side condition.
pub board_free :
    (s : SetupText) (p n : ℕ) (name : List ℕ) (found : ℕ × Bool) (shape : Shape) (choose : Choose) → StandsSoFar s
    → Fresh s p n name found → ShapeFits shape → IsShape found.1 shape
    → FreeHere s (b6 p n name (shape_words shape ++ codes "choose" ∷ choose_words choose))
board_free s p n name found shape First h f fits is = free_chosen s p n name found shape (codes "first") h f fits is
board_free s p n name found shape Round h f fits is = free_chosen s p n name found shape (codes "round") h f fits is
board_free s p n name found shape (Seed m) h f fits is = free_seed s p n name found shape (decimal m) h f fits is

-- ---- what is unknown after the cache of a board

unknown_shape : (p n : ℕ) (name : List ℕ) (shape : Shape) → unfit_word (b6 p n name (shape_words shape)) ≡ UnknownWord
unknown_shape p n name Plain = refl
unknown_shape p n name (Cached a b) = refl

unknown_shape_end :
    (p n : ℕ) (name : List ℕ) (shape : Shape) → unfit_end (b6 p n name (shape_words shape)) ≡ UnknownWord
unknown_shape_end p n name Plain = refl
unknown_shape_end p n name (Cached a b) = refl

unknown_choose :
    (p n : ℕ) (name : List ℕ) (shape : Shape)
    → unfit_word (b6 p n name (shape_words shape ++ codes "choose" ∷ [])) ≡ UnknownWord
unknown_choose p n name Plain = refl
unknown_choose p n name (Cached a b) = refl

unknown_choose_end :
    (p n : ℕ) (name : List ℕ) (shape : Shape)
    → unfit_end (b6 p n name (shape_words shape ++ codes "choose" ∷ [])) ≡ UnknownWord
unknown_choose_end p n name Plain = refl
unknown_choose_end p n name (Cached a b) = refl

number_seed :
    (p n : ℕ) (name : List ℕ) (shape : Shape)
    → unfit_word (b6 p n name (shape_words shape ++ codes "choose" ∷ codes "seed" ∷ [])) ≡ Number
number_seed p n name Plain = refl
number_seed p n name (Cached a b) = refl

number_seed_end :
    (p n : ℕ) (name : List ℕ) (shape : Shape)
    → unfit_end (b6 p n name (shape_words shape ++ codes "choose" ∷ codes "seed" ∷ [])) ≡ Number
number_seed_end p n name Plain = refl
number_seed_end p n name (Cached a b) = refl

unknown_done :
    (p n : ℕ) (name : List ℕ) (shape : Shape) (choose : Choose)
    → unfit_word (b6 p n name (shape_words shape ++ codes "choose" ∷ choose_words choose)) ≡ UnknownWord
unknown_done p n name Plain First = refl
unknown_done p n name Plain Round = refl
unknown_done p n name Plain (Seed m) = refl
unknown_done p n name (Cached a b) First = refl
unknown_done p n name (Cached a b) Round = refl
unknown_done p n name (Cached a b) (Seed m) = refl

unknown_done_end :
    (p n : ℕ) (name : List ℕ) (shape : Shape) (choose : Choose)
    → unfit_end (b6 p n name (shape_words shape ++ codes "choose" ∷ choose_words choose)) ≡ UnknownWord
unknown_done_end p n name Plain First = refl
unknown_done_end p n name Plain Round = refl
unknown_done_end p n name Plain (Seed m) = refl
unknown_done_end p n name (Cached a b) First = refl
unknown_done_end p n name (Cached a b) Round = refl
unknown_done_end p n name (Cached a b) (Seed m) = refl

module _ (s : SetupText) (h : StandsSoFar s) (rest : List Place) (line : ℕ) where
  abbrev Stops : Words → SetupKind → Type 0
  Stops l k = Faulty s line l rest k

  module _ (p n : ℕ) (name : List ℕ) (found : ℕ × Bool) (f : Fresh s p n name found) (small : p < 2 ^ 32) where
    begins :
        (shape : Shape) (choose : Choose) (ws more : Words) → ShapeFits shape → ChooseFits choose
        → shape_words shape ++ codes "choose" ∷ choose_words choose ≡ ws ++ more → Begins s (b6 p n name ws)
    begins shape choose ws more fs fc e =
        begins_behind s p n name shape choose ws more h small f.low f.high f.is fs fc e

    -- the chooser
    choice :
        (shape : Shape) (ws : Words) (k : SetupKind) → ShapeFits shape → IsShape found.1 shape → board_back ws ≡ Err k
        → Stops (b6 p n name (shape_words shape ++ ws)) k
    unfolding board_back choose_at
    choice shape ws k fs is e = first (this_word (codes "choose") ws) refl e
      where
        left :
            (choose : Choose) (vs : Words) (j : SetupKind) → ChooseFits choose
            → ws ≡ codes "choose" ∷ (choose_words choose ++ vs) → line_ends vs ≡ Err j → j ≡ k
            → Stops (b6 p n name (shape_words shape ++ ws)) k
        left choose vs j fc at r same =
            let regroup : shape_words shape ++ (codes "choose" ∷ (choose_words choose ++ vs))
            ≡ (shape_words shape ++ codes "choose" ∷ choose_words choose) ++ vs =
            sym (append_assoc (shape_words shape) (codes "choose" ∷ choose_words choose) vs) in
            refused_at s line (b6 p n name (shape_words shape ++ ws)) rest
            (b6 p n name (shape_words shape ++ codes "choose" ∷ choose_words choose)) vs EndTail k UnknownWord h
            (ap (λ (x : Words). b6 p n name (shape_words shape ++ x)) at ∙ ap (λ (x : Words). b6 p n name x) regroup)
            (begins shape choose (shape_words shape ++ codes "choose" ∷ choose_words choose) [] fs fc
            (sym (append-nil (shape_words shape ++ codes "choose" ∷ choose_words choose))))
            (board_free s p n name found shape choose h f fs is)
            (subst (λ (x : SetupKind). Refused EndTail vs x UnknownWord) same (end_refused vs j r))
            (λ t others g.
            done_tail choose t (choice_tail shape (codes "choose" ∷ (choose_words choose ++ t))
            (subst RestTail (append_assoc (shape_words shape) (codes "choose" ∷ choose_words choose) t)
            (expects_rest s p n name ((shape_words shape ++ codes "choose" ∷ choose_words choose) ++ t)
            others g))))
            (unknown_done p n name shape choose) (unknown_done_end p n name shape choose)

        ends :
            (choose : Choose) (vs : Words) → ChooseFits choose → ws ≡ codes "choose" ∷ (choose_words choose ++ vs)
            → (line_ends vs >>= λ _. Ok choose) ≡ Err k → Stops (b6 p n name (shape_words shape ++ ws)) k
        ends choose vs fc at e = go (line_ends vs) refl e
          where
            go :
                (x : Result (Unit {0}) SetupKind) → line_ends vs ≡ x → (x >>= λ _. Ok choose) ≡ Err k
                → Stops (b6 p n name (shape_words shape ++ ws)) k
            go (Ok u) r e = absurd cc
            go (Err j) r e = left choose vs j fc at r cc

        chosen :
            (vs : Words) → ws ≡ codes "choose" ∷ vs → (x : Result (Choose × Words) SetupKind) → choose_at vs ≡ x
            → (x >>= λ c. line_ends c.1 >>= λ _. Ok c.0) ≡ Err k → Stops (b6 p n name (shape_words shape ++ ws)) k
        chosen vs at (Ok (c, us)) r e =
            let read = choose_read vs (c, us) r in
            ends c us read.1 (at ∙ ap (λ (x : Words). codes "choose" ∷ x) read.0) e
        chosen vs at (Err j) r e = stop vs at j r cc
          where
            parts :
                (front vs : Words) → ws ≡ codes "choose" ∷ (front ++ vs)
                → b6 p n name (shape_words shape ++ ws)
                ≡ b6 p n name (shape_words shape ++ codes "choose" ∷ front) ++ vs
            parts front vs at =
                ap (λ (x : Words). b6 p n name (shape_words shape ++ x)) at
                ∙ ap (λ (x : Words). b6 p n name x) (sym (append_assoc (shape_words shape) (codes "choose" ∷ front) vs))

            expects :
                (front t : Words) (others : List Words)
                → Follows s (b6 p n name (shape_words shape ++ codes "choose" ∷ front) ++ t) others
                → ChoiceTail (codes "choose" ∷ (front ++ t))
            expects front t others g =
                choice_tail shape (codes "choose" ∷ (front ++ t))
                (subst RestTail (append_assoc (shape_words shape) (codes "choose" ∷ front) t)
                (expects_rest s p n name ((shape_words shape ++ codes "choose" ∷ front) ++ t) others g))

            unknown :
                (vs : Words) → ws ≡ codes "choose" ∷ vs → Refused ChooserTail vs k UnknownWord
                → Stops (b6 p n name (shape_words shape ++ ws)) k
            unknown vs at r =
                refused_at s line (b6 p n name (shape_words shape ++ ws)) rest
                (b6 p n name (shape_words shape ++ codes "choose" ∷ [])) vs ChooserTail k UnknownWord h
                (parts [] vs at)
                (begins shape First (shape_words shape ++ codes "choose" ∷ []) (codes "first" ∷ []) fs tt
                (sym (append_assoc (shape_words shape) (codes "choose" ∷ []) (codes "first" ∷ []))))
                (free_choose s p n name found shape h f fs is) r (λ t others g. chooser_tail t (expects [] t others g))
                (unknown_choose p n name shape) (unknown_choose_end p n name shape)

            seed :
                (vs : Words) (j : SetupKind) → ws ≡ codes "choose" ∷ codes "seed" ∷ vs
                → number_at 18446744073709551615 vs ≡ Err j → j ≡ k → Stops (b6 p n name (shape_words shape ++ ws)) k
            seed vs j at r same =
                refused_at s line (b6 p n name (shape_words shape ++ ws)) rest
                (b6 p n name (shape_words shape ++ codes "choose" ∷ codes "seed" ∷ [])) vs
                (NumberTail 0 18446744073709551615) k Number h (parts (codes "seed" ∷ []) vs at)
                (begins shape (Seed 0) (shape_words shape ++ codes "choose" ∷ codes "seed" ∷ []) (decimal 0 ∷ []) fs
                (omega arith)
                (sym (append_assoc (shape_words shape) (codes "choose" ∷ codes "seed" ∷ []) (decimal 0 ∷ []))))
                (free_chosen s p n name found shape (codes "seed") h f fs is)
                (subst (λ (x : SetupKind). Refused (NumberTail 0 18446744073709551615) vs x Number) same
                (number_refused 18446744073709551615 vs j (omega arith) r))
                (λ t others g. seed_tail t (expects (codes "seed" ∷ []) t others g)) (number_seed p n name shape)
                (number_seed_end p n name shape)

            no_word : {w v : List ℕ} {more u : Words} → bytes_eq w v ≡ false → w ∷ more ≡ v ∷ u → ⊥
            no_word {w} {v} r e = let same : w ≡ v = cc in differ same r

            stop :
                (vs : Words) → ws ≡ codes "choose" ∷ vs → (j : SetupKind) → choose_at vs ≡ Err j → j ≡ k
                → Stops (b6 p n name (shape_words shape ++ ws)) k
            stop [] at j r same =
                unknown [] at (record {
                  at = None;
                  rest = [];
                  parts = refl;
                  never = λ more t. nothing more t;
                  is = (let one : UnknownWord ≡ j = cc in sym same ∙ sym one);
                })
              where
                nothing : (more : Words) → ChooserTail [] → ⊥
                nothing more (inl (u, e)) = cc
                nothing more (inr (inl (u, e))) = cc
                nothing more (inr (inr (u, e))) = cc
            stop (w ∷ vs) at j r same =
                one (bytes_eq w (codes "first")) refl (bytes_eq w (codes "round")) refl (bytes_eq w (codes "seed")) refl
                r
              where
                seeding :
                    (x : Result (ℕ × Words) SetupKind) → number_at 18446744073709551615 vs ≡ x → seeded_by x ≡ Err j
                    → w ≡ codes "seed" → Stops (b6 p n name (shape_words shape ++ ws)) k
                seeding (Ok m) q e is = absurd cc
                seeding (Err i) q e is =
                    let both : i ≡ j = cc in
                    seed vs i (at ∙ ap (λ (x : List ℕ). codes "choose" ∷ x ∷ vs) is) q (both ∙ same)

                one :
                    (a : Bool) → bytes_eq w (codes "first") ≡ a → (b : Bool) → bytes_eq w (codes "round") ≡ b
                    → (c : Bool) → bytes_eq w (codes "seed") ≡ c
                    → cond a (Ok (First, vs)) (cond b (Ok (Round, vs)) (cond c (seeded vs) (Err UnknownWord))) ≡ Err j
                    → Stops (b6 p n name (shape_words shape ++ ws)) k
                one true ea b eb c ec e = absurd cc
                one false ea true eb c ec e = absurd cc
                one false ea false eb true ec e =
                    seeding (number_at 18446744073709551615 vs) refl e (is_word w (codes "seed") ec)
                one false ea false eb false ec e =
                    unknown (w ∷ vs) at (record {
                      at = Some w;
                      rest = vs;
                      parts = refl;
                      never = λ more t. nothing more t;
                      is = (let first : UnknownWord ≡ j = cc in sym same ∙ sym first);
                    })
                  where
                    nothing : (more : Words) → ChooserTail (w ∷ more) → ⊥
                    nothing more (inl (u, e)) = no_word ea e
                    nothing more (inr (inl (u, e))) = no_word eb e
                    nothing more (inr (inr (u, e))) = no_word ec e

        first :
            (x : Result Words SetupKind) → this_word (codes "choose") ws ≡ x
            → (x >>= λ after. choose_at after >>= λ c. line_ends c.1 >>= λ _. Ok c.0) ≡ Err k
            → Stops (b6 p n name (shape_words shape ++ ws)) k
        first (Ok vs) r e = chosen vs (word_read (codes "choose") ws vs r) (choose_at vs) refl e
        first (Err j) r e =
            let same : j ≡ k = cc in
            refused_at s line (b6 p n name (shape_words shape ++ ws)) rest (b6 p n name (shape_words shape)) ws
            (WordTail (codes "choose")) k UnknownWord h refl
            (begins shape First (shape_words shape) (codes "choose" ∷ codes "first" ∷ []) fs tt refl)
            (free_shape s p n name found shape h f fs is)
            (subst (λ (x : SetupKind). Refused (WordTail (codes "choose")) ws x UnknownWord) same
            (word_refused (codes "choose") ws j r))
            (λ t others g.
            let c = choice_tail shape t (expects_rest s p n name (shape_words shape ++ t) others g) in
            (choose_words c.0, c.2)) (unknown_shape p n name shape) (unknown_shape_end p n name shape)

    -- the cache
    unknown_cache : (ws : Words) (k : SetupKind) → Refused ShapeTail ws k UnknownWord → Stops (b6 p n name ws) k
    unknown_cache ws k r =
        refused_at s line (b6 p n name ws) rest (b6 p n name []) ws ShapeTail k UnknownWord h refl
        (begins Plain First [] (codes "plain" ∷ codes "choose" ∷ codes "first" ∷ []) tt tt refl)
        (free_6 s p n name found f) r
        (λ t others g. shape_tail t (expects_rest s p n name t others g)) refl refl

    no_frames :
        (ws : Words) (k : SetupKind) → found.1 ≡ false → NoFrames ≡ k → Stops (b6 p n name (codes "plain" ∷ ws)) k
    no_frames ws k flag same =
        let t = found_table name (setup_of s).tables found f.at in
        let other = reaches_other t.0 (t.3 ∙ flag) in
        judged_at s line (b6 p n name (codes "plain" ∷ ws)) rest (b6 p n name []) (codes "plain") ws k h refl
        (begins Plain First [] (codes "plain" ∷ codes "choose" ∷ codes "first" ∷ []) tt tt refl)
        (begins Plain First (codes "plain" ∷ []) (codes "choose" ∷ codes "first" ∷ []) tt tt refl)
        (free_6 s p n name found f)
        (refl, t.0, other.0, t.1, t.2, test-reached t.0 other.0 other.1, other.2, sym same)

    frames : (ws : Words) (k : SetupKind) → frames_at ws ≡ Err k → Stops (b6 p n name (codes "cached" ∷ ws)) k
    unfolding frames_at
    frames ws k e = sets (number_from_one 256 ws) refl e
      where
        begins_cached : Begins s (b6 p n name (codes "cached" ∷ []))
        begins_cached =
            begins (Cached 1 1) First (codes "cached" ∷ [])
            (decimal 1 ∷ decimal 1 ∷ codes "choose" ∷ codes "first" ∷ [])
            (omega arith, omega arith, omega arith, omega arith) tt refl

        begins_sets : (a : ℕ) → 1 ≤ a → a ≤ 256 → Begins s (b6 p n name (codes "cached" ∷ decimal a ∷ []))
        begins_sets a low high =
            begins (Cached a 1) First (codes "cached" ∷ decimal a ∷ [])
            (decimal 1 ∷ codes "choose" ∷ codes "first" ∷ []) (low, high, omega arith, omega arith) tt refl

        many :
            (a b : ℕ) (vs : Words) → 1 ≤ a → a ≤ 256 → 1 ≤ b → b ≤ 256 → 256 < a * b → ws ≡ decimal a ∷ decimal b ∷ vs
            → Limit Frames (a * b) ≡ k → Stops (b6 p n name (codes "cached" ∷ ws)) k
        many a b vs la ha lb hb more at same =
            judged_at s line (b6 p n name (codes "cached" ∷ ws)) rest (b6 p n name (codes "cached" ∷ decimal a ∷ []))
            (decimal b) vs k h (ap (λ (x : Words). b6 p n name (codes "cached" ∷ x)) at) (begins_sets a la ha)
            (begins (Cached a b) First (codes "cached" ∷ decimal a ∷ decimal b ∷ [])
            (codes "choose" ∷ codes "first" ∷ []) (la, ha, lb, hb) tt refl) (free_sets s p n name found a f)
            (a, b, ha, hb, refl, refl, more, sym same)

        room :
            (a b : ℕ) (vs : Words) → 1 ≤ a → a ≤ 256 → 1 ≤ b → b ≤ 256 → ws ≡ decimal a ∷ decimal b ∷ vs
            → framed a (b, vs) ≡ Err k → Stops (b6 p n name (codes "cached" ∷ ws)) k
        room a b vs la ha lb hb at e = go (ltb 256 (a * b)) refl e
          where
            go :
                (x : Bool) → ltb 256 (a * b) ≡ x → cond x (Err (Limit Frames (a * b))) (fits_by a b vs) ≡ Err k
                → Stops (b6 p n name (codes "cached" ∷ ws)) k
            go true q e = many a b vs la ha lb hb (ltb-true 256 (a * b) q) at cc
            go false q e = absurd cc

        ways :
            (a : ℕ) (us : Words) → 1 ≤ a → a ≤ 256 → ws ≡ decimal a ∷ us → (x : Result (ℕ × Words) SetupKind)
            → number_from_one 256 us ≡ x → (x >>= framed a) ≡ Err k → Stops (b6 p n name (codes "cached" ∷ ws)) k
        ways a us la ha at (Ok (b, vs)) r e =
            let read = from_one_read 256 us (b, vs) (omega arith) r in
            room a b vs la ha read.1 read.2 (at ∙ ap (λ (x : Words). decimal a ∷ x) read.0) e
        ways a us la ha at (Err j) r e =
            let same : j ≡ k = cc in
            refused_at s line (b6 p n name (codes "cached" ∷ ws)) rest (b6 p n name (codes "cached" ∷ decimal a ∷ []))
            us (NumberTail 1 256) k Number h (ap (λ (x : Words). b6 p n name (codes "cached" ∷ x)) at)
            (begins_sets a la ha) (free_sets s p n name found a f)
            (subst (λ (x : SetupKind). Refused (NumberTail 1 256) us x Number) same
            (from_one_refused 256 us j (omega arith) r))
            (λ t others g. ways_tail a t (expects_rest s p n name (codes "cached" ∷ decimal a ∷ t) others g)) refl
            refl

        sets :
            (x : Result (ℕ × Words) SetupKind) → number_from_one 256 ws ≡ x
            → (x >>= λ sets. number_from_one 256 sets.1 >>= framed sets.0) ≡ Err k
            → Stops (b6 p n name (codes "cached" ∷ ws)) k
        sets (Ok (a, us)) r e =
            let read = from_one_read 256 ws (a, us) (omega arith) r in
            ways a us read.1 read.2 read.0 (number_from_one 256 us) refl e
        sets (Err j) r e =
            let same : j ≡ k = cc in
            refused_at s line (b6 p n name (codes "cached" ∷ ws)) rest (b6 p n name (codes "cached" ∷ [])) ws
            (NumberTail 1 256) k Number h refl begins_cached (free_cached s p n name found f)
            (subst (λ (x : SetupKind). Refused (NumberTail 1 256) ws x Number) same
            (from_one_refused 256 ws j (omega arith) r))
            (λ t others g. sets_tail t (expects_rest s p n name (codes "cached" ∷ t) others g)) refl refl

    cache : (ws : Words) (k : SetupKind) → shape_at found.1 ws ≡ Err k → Stops (b6 p n name ws) k
    unfolding shape_at
    cache [] k e =
        unknown_cache [] k (record { at = None; rest = []; parts = refl; never = λ more t. nothing t; is = cc })
      where
        nothing : ShapeTail [] → ⊥
        nothing (inl (u, e)) = cc
        nothing (inr (u, e)) = cc
    cache (w ∷ ws) k e = plain (bytes_eq w (codes "plain")) refl (bytes_eq w (codes "cached")) refl found.1 refl e
      where
        plain :
            (a : Bool) → bytes_eq w (codes "plain") ≡ a → (b : Bool) → bytes_eq w (codes "cached") ≡ b → (c : Bool)
            → found.1 ≡ c
            → cond a (cond c (plain_by ws) (Err NoFrames)) (cond b (frames_at ws) (Err UnknownWord)) ≡ Err k
            → Stops (b6 p n name (w ∷ ws)) k
        plain true ea b eb true ec e = absurd cc
        plain true ea b eb false ec e =
            subst (λ (x : List ℕ). Stops (b6 p n name (x ∷ ws)) k) (sym (is_word w (codes "plain") ea))
            (no_frames ws k ec cc)
        plain false ea true eb c ec e =
            subst (λ (x : List ℕ). Stops (b6 p n name (x ∷ ws)) k) (sym (is_word w (codes "cached") eb)) (frames ws k e)
        plain false ea false eb c ec e =
            unknown_cache (w ∷ ws) k
            (record { at = Some w; rest = ws; parts = refl; never = λ more t. nothing t; is = cc })
          where
            nothing : {more : Words} → ShapeTail (w ∷ more) → ⊥
            nothing (inl (u, e)) = let same : w ≡ codes "plain" = cc in differ same ea
            nothing (inr (u, e)) = let same : w ≡ codes "cached" = cc in differ same eb

    -- the cache, and what follows it
    behind_name :
        (table : ℕ) (ws : Words) (k : SetupKind) → shaped_by n table (shape_at found.1 ws) ≡ Err k
        → Stops (b6 p n name ws) k
    behind_name table ws k e = go (shape_at found.1 ws) refl e
      where
        back :
            (shape : Shape) (us : Words) → ws ≡ shape_words shape ++ us → ShapeFits shape → IsShape found.1 shape
            → (x : Result Choose SetupKind) → board_back us ≡ x → spec_by n table shape x ≡ Err k
            → Stops (b6 p n name ws) k
        back shape us at fs is (Ok c) r e = absurd cc
        back shape us at fs is (Err j) r e =
            let same : j ≡ k = cc in
            subst (λ (x : Words). Stops (b6 p n name x) k) (sym at)
            (choice shape us k fs is (r ∙ ap (λ (x : SetupKind). Err x) same))

        go :
            (x : Result (Shape × Words) SetupKind) → shape_at found.1 ws ≡ x → shaped_by n table x ≡ Err k
            → Stops (b6 p n name ws) k
        go (Ok (shape, us)) r e =
            let read = shape_read found.1 ws (shape, us) r in back shape us read.0 read.1 read.2 (board_back us) refl e
        go (Err j) r e = let same : j ≡ k = cc in cache ws k (r ∙ ap (λ (x : SetupKind). Err x) same)

  -- ---- up to the name of the table

  module _ (few : length (boards_of s) < 16) (p : ℕ) (place : p ≡ length (boards_of s) + 1) where
    small : p < 2 ^ 32
    small = omega arith

    pub table_stops :
        (n : ℕ) (ws : Words) (k : SetupKind) → 1 ≤ n → n ≤ 1023 → has_number (boards_of s) n ≡ false
        → tabled_by n (board_table (setup_of s).tables ws) ≡ Err k → Stops (b4 p n ++ ws) k
    unfolding board_table table_name_at
    table_stops n ws k low high new e = word_case (this_word (codes "table") ws) refl e
      where
        known :
            (name : List ℕ) (us : Words) → ws ≡ codes "table" ∷ name ∷ us → is_name name ≡ true
            → (o : Option (ℕ × Bool)) → found_name (map named (setup_of s).tables) name ≡ o
            → tabled_by n (known_name o us) ≡ Err k → Stops (b4 p n ++ ws) k
        known name us at is (Some found) r e =
            subst (λ (x : Words). Stops (b4 p n ++ x) k) (sym at)
            (behind_name p n name found
            (record { few = few; place = place; low = low; high = high; new = new; is = is; at = r }) small
            found.0 us k e)
        known name us at is None r e =
            let same : NoTable ≡ k = cc in
            judged_at s line (b4 p n ++ ws) rest (b5 p n) name us k h (ap (λ (x : Words). b4 p n ++ x) at)
            (begins_table_word s p n h small low high)
            (begins_behind s p n name Plain First [] (codes "plain" ∷ codes "choose" ∷ codes "first" ∷ []) h small low
            high is tt tt refl) (free_5 s p n few place high new)
            (none_contains name (setup_of s).tables r, sym same)

        name_case :
            (vs : Words) → ws ≡ codes "table" ∷ vs → (x : Result (List ℕ × Words) SetupKind) → name_at vs ≡ x
            → tabled_by n (x >>= λ n. known_name (found_name (map named (setup_of s).tables) n.0) n.1) ≡ Err k
            → Stops (b4 p n ++ ws) k
        name_case vs at (Ok (name, us)) r e =
            let read = name_read vs (name, us) r in
            known name us (at ∙ ap (λ (x : Words). codes "table" ∷ x) read.0) read.1
            (found_name (map named (setup_of s).tables) name) refl e
        name_case vs at (Err j) r e =
            let same : j ≡ k = cc in
            refused_at s line (b4 p n ++ ws) rest (b5 p n) vs NameTail k UnknownWord h
            (ap (λ (x : Words). b4 p n ++ x) at) (begins_table_word s p n h small low high)
            (free_5 s p n few place high new)
            (subst (λ (x : SetupKind). Refused NameTail vs x UnknownWord) same (name_refused vs j r))
            (λ t others g. expects_name s p n t others g) refl refl

        word_case :
            (x : Result Words SetupKind) → this_word (codes "table") ws ≡ x
            → tabled_by n (x >>=
            λ after. name_at after >>= λ n. known_name (found_name (map named (setup_of s).tables) n.0) n.1)
            ≡ Err k → Stops (b4 p n ++ ws) k
        word_case (Ok vs) r e = name_case vs (word_read (codes "table") ws vs r) (name_at vs) refl e
        word_case (Err j) r e =
            let same : j ≡ k = cc in
            refused_at s line (b4 p n ++ ws) rest (b4 p n) ws (WordTail (codes "table")) k UnknownWord h refl
            (begins_number s p n h small low high) (free_4 s p n few place high new)
            (subst (λ (x : SetupKind). Refused (WordTail (codes "table")) ws x UnknownWord) same
            (word_refused (codes "table") ws j r)) (λ t others g. expects_table_word s p n t others g) refl refl

    -- the number
    number_stops :
        (ws : Words) (k : SetupKind) → (number_from_one 1023 ws >>= new_number (boards_of s)) ≡ Err k
        → Stops (b3 p ++ ws) k
    number_stops ws k e = go (number_from_one 1023 ws) refl e
      where
        twice :
            (n : ℕ) (us : Words) → 1 ≤ n → n ≤ 1023 → ws ≡ decimal n ∷ us → has_number (boards_of s) n ≡ true
            → TwiceNumber ≡ k → Stops (b3 p ++ ws) k
        twice n us low high at has same =
            judged_at s line (b3 p ++ ws) rest (b3 p) (decimal n) us k h (ap (λ (x : Words). b3 p ++ x) at)
            (begins_number_word s p h small) (begins_number s p n h small low high) (free_3 s p few place)
            (n, high, refl, has_contains (boards_of s) n has, sym same)

        test :
            (n : ℕ) (us : Words) → 1 ≤ n → n ≤ 1023 → ws ≡ decimal n ∷ us → (x : Bool) → has_number (boards_of s) n ≡ x
            → cond x (Err TwiceNumber) (number_by n us) ≡ Err k → Stops (b3 p ++ ws) k
        test n us low high at true r e = twice n us low high at r cc
        test n us low high at false r e = absurd cc

        go :
            (x : Result (ℕ × Words) SetupKind) → number_from_one 1023 ws ≡ x → (x >>= new_number (boards_of s)) ≡ Err k
            → Stops (b3 p ++ ws) k
        go (Ok (n, us)) r e =
            let read = from_one_read 1023 ws (n, us) (omega arith) r in
            test n us read.1 read.2 read.0 (has_number (boards_of s) n) refl e
        go (Err j) r e =
            let same : j ≡ k = cc in
            refused_at s line (b3 p ++ ws) rest (b3 p) ws (NumberTail 1 1023) k Number h refl
            (begins_number_word s p h small) (free_3 s p few place)
            (subst (λ (x : SetupKind). Refused (NumberTail 1 1023) ws x Number) same
            (from_one_refused 1023 ws j (omega arith) r)) (λ t others g. expects_number s p t others g) refl refl

    -- the word `number`
    pub word_stops :
        (ws : Words) (k : SetupKind)
        → (this_word (codes "number") ws >>= λ after. number_from_one 1023 after >>= new_number (boards_of s)) ≡ Err k
        → Stops (b2 p ++ ws) k
    word_stops ws k e = go (this_word (codes "number") ws) refl e
      where
        go :
            (x : Result Words SetupKind) → this_word (codes "number") ws ≡ x
            → (x >>= λ after. number_from_one 1023 after >>= new_number (boards_of s)) ≡ Err k → Stops (b2 p ++ ws) k
        go (Ok vs) r e =
            subst (λ (x : Words). Stops (b2 p ++ x) k) (sym (word_read (codes "number") ws vs r)) (number_stops vs k e)
        go (Err j) r e =
            let same : j ≡ k = cc in
            refused_at s line (b2 p ++ ws) rest (b2 p) ws (WordTail (codes "number")) k UnknownWord h refl
            (begins_place s p h small) (free_2 s p few place)
            (subst (λ (x : SetupKind). Refused (WordTail (codes "number")) ws x UnknownWord) same
            (word_refused (codes "number") ws j r)) (λ t others g. expects_number_word s p t others g) refl refl
