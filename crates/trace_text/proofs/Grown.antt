-- Lists of boards, answers and states are read exactly where they are spelled and in range.
use Rattle.std.proofs.Common.{◌≡◌, ◌≢◌, ℕ, ◌+◌, ◌<◌, ◌≤◌, Bool, true, false, cond, not, ◌&&◌, eqb, ltb, List, [], ◌∷◌, ◌++◌, length, map, drop, Option, Some, None, refl, sym, ap, ◌∙◌, subst, arith, append_assoc, append-nil, length-append, ne_eqb}
use Rattle.std.specs.Prelude.{decimal, codes}
use Rattle.std.specs.List.{AllByRecursion}
use Rattle.std.specs.Str.{bytes_eq}
use Rattle.std.proofs.lemmas.Bool.{ltb-true, lt-ltb, eqb-false}
use Rattle.fb_text.specs.Places.{Words}
use Rattle.moesi_state.specs.declared.State.{State}
use Rattle.journal.specs.declared.answers.Answer.{Answer}
use Rattle.journal.specs.Rising.{IsRising}
use Rattle.journal.specs.Boards.{answer_boards, state_boards}
use Rattle.trace_text.specs.Spelling.{answer_word, placed_word}
use Rattle.trace_text.specs.Ranges.{IsBoard, AreBoards}
use Rattle.trace_text.specs.Reading.{last_of, board_of, added_place, more_places, answer_of, added_answer, more_answers, placed_of, added_state, more_states}
use Rattle.trace_text.proofs.Binds.{some_same, is_word}
use Rattle.trace_text.proofs.Lasts.{last-push}
use Rattle.trace_text.proofs.Longer.{places_end, places_none, places_more, answers_end, answers_none, answers_more, answer_last, states_end, states_done, states_none, states_more, state_last}
use Rattle.trace_text.proofs.Numbers.{board_is, board_again}
use Rattle.trace_text.proofs.Spelled.{answer_is, answer_again, placed_is, placed_again}

-- ---- rising boards

-- Boards that rise from above `last`.
abbrev pub Above : ℕ → List ℕ → Type 0
Above last [] = Unit {0}
Above last (b ∷ bs) = (last < b) × IsBoard b × Above b bs

abbrev FirstAbove : ℕ → List ℕ → Type 0
FirstAbove last [] = Unit {0}
FirstAbove last (b ∷ bs) = last < b

above_from : (last : ℕ) (bs : List ℕ) → AllByRecursion IsBoard bs → IsRising bs → FirstAbove last bs → Above last bs
above_from last [] each rising first = tt
above_from last (b ∷ []) each rising first = (first, each.0, tt)
above_from last (b ∷ c ∷ bs) each rising first = (first, each.0, above_from b (c ∷ bs) each.1 rising.1 rising.0)

pub boards_above : (bs : List ℕ) → AreBoards bs → Above 0 bs
boards_above [] h = tt
boards_above (b ∷ bs) h = above_from 0 (b ∷ bs) h.each h.rising (let k = h.each.0.0 in omega arith)

each_above : (last : ℕ) (bs : List ℕ) → Above last bs → AllByRecursion IsBoard bs
each_above last [] h = tt
each_above last (b ∷ bs) h = (h.1, each_above b bs h.2)

rising_above : (last : ℕ) (bs : List ℕ) → Above last bs → IsRising bs
rising_above last [] h = tt
rising_above last (b ∷ []) h = tt
rising_above last (b ∷ c ∷ bs) h = (h.2.0, rising_above b (c ∷ bs) h.2)

pub above_boards : (last : ℕ) (bs : List ℕ) → Above last bs → AreBoards bs
above_boards last bs h = record { each = each_above last bs h; rising = rising_above last bs h }

-- ---- tests

fits : (a b c d : ℕ) → a < b → c < d → (ltb a b && ltb c d) ≡ true
fits a b c d h k = rw (lt-ltb a b h, lt-ltb c d k) refl

fit : (a b c d : ℕ) → (ltb a b && ltb c d) ≡ true → (a < b) × (c < d)
fit a b c d e = go (ltb a b) refl e
  where
    go : (x : Bool) → ltb a b ≡ x → (x && ltb c d) ≡ true → (a < b) × (c < d)
    go true h k = (ltb-true a b h, ltb-true c d k)
    go false h k = absurd cc

longer_by : {A : Type 0} (xs : List A) (x : A) → length (xs ++ x ∷ []) ≡ length xs + 1
longer_by xs x = length-append xs (x ∷ [])

-- ---- boards

pub record ReadPlaces (ps : List ℕ) (ws : Words) (qs : List ℕ) : Type 0 where
  pub boards : List ℕ
  pub all : qs ≡ ps ++ boards
  pub words : ws ≡ map decimal boards
  pub above : Above (last_of ps) boards
  pub few : length ps + length boards ≤ 16

added_place_again :
    (ps : List ℕ) (b : ℕ) → length ps < 16 → last_of ps < b → added_place ps (Some b) ≡ Some (ps ++ b ∷ [])
added_place_again ps b h k = rw (fits (length ps) 16 (last_of ps) b h k) refl

pub added_place_is :
    (ps : List ℕ) (o : Option ℕ) (qs : List ℕ) → added_place ps o ≡ Some qs
    → (b : ℕ) × (o ≡ Some b) × (ps ++ b ∷ [] ≡ qs) × (length ps < 16) × (last_of ps < b)
added_place_is ps None qs e = absurd cc
added_place_is ps (Some b) qs e = go (ltb (length ps) 16 && ltb (last_of ps) b) refl e
  where
    go :
        (c : Bool) → (ltb (length ps) 16 && ltb (last_of ps) b) ≡ c → cond c (Some (ps ++ b ∷ [])) None ≡ Some qs
        → (b' : ℕ) × (Some b ≡ Some b') × (ps ++ b' ∷ [] ≡ qs) × (length ps < 16) × (last_of ps < b')
    go true h k = let t = fit (length ps) 16 (last_of ps) b h in (b, refl, some_same (ps ++ b ∷ []) qs k, t.0, t.1)
    go false h k = absurd cc

pub places_again :
    (ps bs : List ℕ) → Above (last_of ps) bs → length ps + length bs ≤ 16
    → more_places ps (map decimal bs) ≡ Some (ps ++ bs)
places_again ps [] above few = places_end ps ∙ ap (λ (z : List ℕ). Some z) (sym (append-nil ps))
places_again ps (b ∷ bs) above few =
    let longer : List ℕ = ps ++ b ∷ [] in
    let one : added_place ps (board_of (decimal b)) ≡ Some longer =
    ap (added_place ps) (board_again b above.1) ∙ added_place_again ps b (omega arith) above.0 in
    let next : Above (last_of longer) bs = subst (λ (n : ℕ). Above n bs) (sym (last-push ps b)) above.2 in
    places_more ps longer (decimal b) (map decimal bs) one
    ∙ (places_again longer bs next (let l = longer_by ps b in omega arith)
    ∙ ap (λ (z : List ℕ). Some z) (append_assoc ps (b ∷ []) bs))

pub places_is : (ws : Words) (ps qs : List ℕ) → length ps ≤ 16 → more_places ps ws ≡ Some qs → ReadPlaces ps ws qs
places_is [] ps qs few e =
    record {
      boards = [];
      all = sym (some_same ps qs (sym (places_end ps) ∙ e)) ∙ sym (append-nil ps);
      words = refl;
      above = tt;
      few = omega arith;
    }
places_is (w ∷ ws) ps qs few e = go (added_place ps (board_of w)) refl (λ longer few h. places_is ws longer qs few h)
  where
    more :
        (longer : List ℕ) → added_place ps (board_of w) ≡ Some longer → ReadPlaces longer ws qs
        → ReadPlaces ps (w ∷ ws) qs
    more longer h r =
        let a = added_place_is ps (board_of w) longer h in let b : ℕ = a.0 in let is = board_is w b a.1 in record {
          boards = b ∷ r.boards;
          all = r.all ∙ (ap (λ (z : List ℕ). z ++ r.boards) (sym a.2) ∙ append_assoc ps (b ∷ []) r.boards);
          words = λ i. is.0 i ∷ r.words i;
          above = (a.4, is.1, subst (λ (n : ℕ). Above n r.boards) (ap last_of (sym a.2) ∙ last-push ps b) r.above);
          few = (let l = longer_by ps b in let m = ap (λ (z : List ℕ). length z) a.2 in let k = r.few in omega arith);
        }

    short : (longer : List ℕ) → added_place ps (board_of w) ≡ Some longer → length longer ≤ 16
    short longer h =
        let a = added_place_is ps (board_of w) longer h in
        let l = longer_by ps a.0 in let m = ap (λ (z : List ℕ). length z) a.2 in let k = a.3 in omega arith

    go :
        (o : Option (List ℕ)) → added_place ps (board_of w) ≡ o
        → ((longer : List ℕ) → length longer ≤ 16 → more_places longer ws ≡ Some qs → ReadPlaces longer ws qs)
        → ReadPlaces ps (w ∷ ws) qs
    go None h rest = let both : ◌≡◌ {A = Option (List ℕ)} None (Some qs) = sym (places_none ps w ws h) ∙ e in absurd cc
    go (Some longer) h rest = more longer h (rest longer (short longer h) (sym (places_more ps longer w ws h) ∙ e))

-- ---- answers

pub record ReadAnswers (xs : List Answer) (ws : Words) (ys : List Answer) : Type 0 where
  pub answers : List Answer
  pub all : ys ≡ xs ++ answers
  pub words : ws ≡ map answer_word answers
  pub above : Above (last_of (answer_boards xs)) (answer_boards answers)
  pub few : length xs + length answers ≤ 15

added_answer_again :
    (xs : List Answer) (a : Answer) → length xs < 15 → last_of (answer_boards xs) < a.board
    → added_answer xs (Some a) ≡ Some (xs ++ a ∷ [])
added_answer_again xs a h k = rw (fits (length xs) 15 (last_of (answer_boards xs)) a.board h k) refl

pub added_answer_is : (xs : List Answer) (o : Option Answer) (ys : List Answer) → added_answer xs o ≡ Some ys
    → (a : Answer) × (o ≡ Some a) × (xs ++ a ∷ [] ≡ ys) × (length xs < 15) × (last_of (answer_boards xs) < a.board)
added_answer_is xs None ys e = absurd cc
added_answer_is xs (Some a) ys e = go (ltb (length xs) 15 && ltb (last_of (answer_boards xs)) a.board) refl e
  where
    go :
        (c : Bool) → (ltb (length xs) 15 && ltb (last_of (answer_boards xs)) a.board) ≡ c
        → cond c (Some (xs ++ a ∷ [])) None ≡ Some ys
        → (a' : Answer) × (Some a ≡ Some a') × (xs ++ a' ∷ [] ≡ ys) × (length xs < 15)
        × (last_of (answer_boards xs) < a'.board)
    go true h k =
        let t = fit (length xs) 15 (last_of (answer_boards xs)) a.board h in
        (a, refl, some_same (xs ++ a ∷ []) ys k, t.0, t.1)
    go false h k = absurd cc

pub answers_again :
    (xs more : List Answer) → Above (last_of (answer_boards xs)) (answer_boards more) → length xs + length more ≤ 15
    → more_answers xs (map answer_word more) ≡ Some (xs ++ more)
answers_again xs [] above few = answers_end xs ∙ ap (λ (z : List Answer). Some z) (sym (append-nil xs))
answers_again xs (a ∷ more) above few =
    let longer : List Answer = xs ++ a ∷ [] in
    let one : added_answer xs (answer_of (answer_word a)) ≡ Some longer =
    ap (added_answer xs) (answer_again a above.1) ∙ added_answer_again xs a (omega arith) above.0 in
    let next : Above (last_of (answer_boards longer)) (answer_boards more) =
    subst (λ (n : ℕ). Above n (answer_boards more)) (sym (answer_last xs a)) above.2 in
    answers_more xs longer (answer_word a) (map answer_word more) one
    ∙ (answers_again longer more next (let l = longer_by xs a in omega arith)
    ∙ ap (λ (z : List Answer). Some z) (append_assoc xs (a ∷ []) more))

pub answers_is :
    (ws : Words) (xs ys : List Answer) → length xs ≤ 15 → more_answers xs ws ≡ Some ys → ReadAnswers xs ws ys
answers_is [] xs ys few e =
    record {
      answers = [];
      all = sym (some_same xs ys (sym (answers_end xs) ∙ e)) ∙ sym (append-nil xs);
      words = refl;
      above = tt;
      few = omega arith;
    }
answers_is (w ∷ ws) xs ys few e =
    go (added_answer xs (answer_of w)) refl (λ longer few h. answers_is ws longer ys few h)
  where
    more :
        (longer : List Answer) → added_answer xs (answer_of w) ≡ Some longer → ReadAnswers longer ws ys
        → ReadAnswers xs (w ∷ ws) ys
    more longer h r =
        let a = added_answer_is xs (answer_of w) longer h in
        let one : Answer = a.0 in let is = answer_is w one a.1 in record {
          answers = one ∷ r.answers;
          all = r.all ∙ (ap (λ (z : List Answer). z ++ r.answers) (sym a.2) ∙ append_assoc xs (one ∷ []) r.answers);
          words = λ i. is.0 i ∷ r.words i;
          above = (
            a.4,
            is.1,
            subst (λ (n : ℕ). Above n (answer_boards r.answers))
                (ap (λ (z : List Answer). last_of (answer_boards z)) (sym a.2) ∙ answer_last xs one) r.above,
          );
          few =
              (let l = longer_by xs one in
              let m = ap (λ (z : List Answer). length z) a.2 in let k = r.few in omega arith);
        }

    short : (longer : List Answer) → added_answer xs (answer_of w) ≡ Some longer → length longer ≤ 15
    short longer h =
        let a = added_answer_is xs (answer_of w) longer h in
        let l = longer_by xs a.0 in let m = ap (λ (z : List Answer). length z) a.2 in let k = a.3 in omega arith

    go :
        (o : Option (List Answer)) → added_answer xs (answer_of w) ≡ o
        → ((longer : List Answer) → length longer ≤ 15 → more_answers longer ws ≡ Some ys → ReadAnswers longer ws ys)
        → ReadAnswers xs (w ∷ ws) ys
    go None h rest =
        let both : ◌≡◌ {A = Option (List Answer)} None (Some ys) = sym (answers_none xs w ws h) ∙ e in absurd cc
    go (Some longer) h rest = more longer h (rest longer (short longer h) (sym (answers_more xs longer w ws h) ∙ e))

-- ---- states

abbrev others : List (ℕ × State) → List ℕ
others ss = drop 1 (state_boards ss)

pub record ReadStates (master : ℕ) (ss : List (ℕ × State)) (ws : Words) (all : List (ℕ × State)) (rest : Words) : Type 0
  where
    pub states : List (ℕ × State)
    pub total : all ≡ ss ++ states
    pub words : ws ≡ map placed_word states ++ codes "done" ∷ rest
    pub above : Above (last_of (others ss)) (state_boards states)
    pub apart : AllByRecursion (λ b. b ≢ master) (state_boards states)
    pub few : length ss + length states ≤ 16

three : (a b c : Bool) → (a && b && c) ≡ true → ((a && b) ≡ true) × (c ≡ true)
three a b c e = go (a && b) e
  where
    go : (x : Bool) → (x && c) ≡ true → (x ≡ true) × (c ≡ true)
    go true e = (refl, e)
    go false e = absurd cc

not_is : (b : Bool) → not b ≡ true → b ≡ false
not_is true e = absurd cc
not_is false e = refl

added_state_again :
    (master : ℕ) (ss : List (ℕ × State)) (p : ℕ × State) → length ss < 16 → last_of (others ss) < p.0 → p.0 ≢ master
    → added_state master ss (Some p) ≡ Some (ss ++ p ∷ [])
added_state_again master ss p h k apart =
    rw (fits (length ss) 16 (last_of (others ss)) p.0 h k, ne_eqb p.0 master apart) refl

added_state_is :
    (master : ℕ) (ss : List (ℕ × State)) (o : Option (ℕ × State)) (all : List (ℕ × State))
    → added_state master ss o ≡ Some all
    → (p : ℕ × State) × (o ≡ Some p) × (ss ++ p ∷ [] ≡ all) × (length ss < 16) × (last_of (others ss) < p.0)
    × (p.0 ≢ master)
added_state_is master ss None all e = absurd cc
added_state_is master ss (Some p) all e =
    go (ltb (length ss) 16 && ltb (last_of (others ss)) p.0 && not (eqb p.0 master)) refl e
  where
    go :
        (c : Bool) → (ltb (length ss) 16 && ltb (last_of (others ss)) p.0 && not (eqb p.0 master)) ≡ c
        → cond c (Some (ss ++ p ∷ [])) None ≡ Some all
        → (q : ℕ × State) × (Some p ≡ Some q) × (ss ++ q ∷ [] ≡ all) × (length ss < 16) × (last_of (others ss) < q.0)
        × (q.0 ≢ master)
    go true h k =
        let parts = three (ltb (length ss) 16) (ltb (last_of (others ss)) p.0) (not (eqb p.0 master)) h in
        let t = fit (length ss) 16 (last_of (others ss)) p.0 parts.0 in
        (p, refl, some_same (ss ++ p ∷ []) all k, t.0, t.1, eqb-false p.0 master (not_is (eqb p.0 master) parts.1))
    go false h k = absurd cc

done_is_no_state : placed_of (codes "done") ≡ None
unfolding placed_of
done_is_no_state = refl

-- A state is not the word `done`.
not_done : (p : ℕ × State) → IsBoard p.0 → bytes_eq (placed_word p) (codes "done") ≡ false
not_done p h = go (bytes_eq (placed_word p) (codes "done")) refl
  where
    go : (c : Bool) → bytes_eq (placed_word p) (codes "done") ≡ c → c ≡ false
    go true k =
        let both : ◌≡◌ {A = Option (ℕ × State)} None (Some p) =
        sym done_is_no_state ∙ (ap placed_of (sym (is_word (placed_word p) (codes "done") k)) ∙ placed_again p h) in
        absurd cc
    go false k = refl

pub states_again :
    (master : ℕ) (ss more : List (ℕ × State)) (rest : Words) → 0 < length ss
    → Above (last_of (others ss)) (state_boards more) → AllByRecursion (λ b. b ≢ master) (state_boards more)
    → length ss + length more ≤ 16
    → more_states master ss (map placed_word more ++ codes "done" ∷ rest) ≡ Some (ss ++ more, rest)
states_again master ss [] rest some above apart few =
    states_done master ss (codes "done") rest refl ∙ ap (λ (z : List (ℕ × State)). Some (z, rest)) (sym (append-nil ss))
states_again master ss (p ∷ more) rest some above apart few =
    let longer : List (ℕ × State) = ss ++ p ∷ [] in
    let one : added_state master ss (placed_of (placed_word p)) ≡ Some longer =
    ap (added_state master ss) (placed_again p above.1)
    ∙ added_state_again master ss p (omega arith) above.0 apart.0 in
    let l = longer_by ss p in
    let next : Above (last_of (others longer)) (state_boards more) =
    subst (λ (n : ℕ). Above n (state_boards more)) (sym (state_last ss p some)) above.2 in
    states_more master ss longer (placed_word p) (map placed_word more ++ codes "done" ∷ rest) (not_done p above.1) one
    ∙ (states_again master longer more rest (omega arith) next apart.1 (omega arith)
    ∙ ap (λ (z : List (ℕ × State)). Some (z, rest)) (append_assoc ss (p ∷ []) more))

pub states_are :
    (master : ℕ) (ws : Words) (ss all : List (ℕ × State)) (rest : Words) → 0 < length ss → length ss ≤ 16
    → more_states master ss ws ≡ Some (all, rest) → ReadStates master ss ws all rest
states_are master [] ss all rest some few e =
    let both : ◌≡◌ {A = Option (List (ℕ × State) × Words)} None (Some (all, rest)) = sym (states_end master ss) ∙ e in
    absurd cc
states_are master (w ∷ ws) ss all rest some few e =
    go (bytes_eq w (codes "done")) refl (λ longer some few h. states_are master ws longer all rest some few h)
  where
    ended : bytes_eq w (codes "done") ≡ true → ReadStates master ss (w ∷ ws) all rest
    ended h =
        let same =
        some_same {A = List (ℕ × State) × Words} (ss, ws) (all, rest) (sym (states_done master ss w ws h) ∙ e)
        in
        record {
          states = [];
          total = ap (λ (z : List (ℕ × State) × Words). z.0) (sym same) ∙ sym (append-nil ss);
          words = λ i. is_word w (codes "done") h i ∷ (same i).1;
          above = tt;
          apart = tt;
          few = omega arith;
        }

    more :
        (longer : List (ℕ × State)) → added_state master ss (placed_of w) ≡ Some longer
        → ReadStates master longer ws all rest → ReadStates master ss (w ∷ ws) all rest
    more longer h r =
        let a = added_state_is master ss (placed_of w) longer h in
        let one : ℕ × State = a.0 in let is = placed_is w one a.1 in record {
          states = one ∷ r.states;
          total =
              r.total ∙ (ap (λ (z : List (ℕ × State)). z ++ r.states) (sym a.2) ∙ append_assoc ss (one ∷ []) r.states);
          words = λ i. is.0 i ∷ r.words i;
          above = (
            a.4,
            is.1,
            subst (λ (n : ℕ). Above n (state_boards r.states))
                (ap (λ (z : List (ℕ × State)). last_of (others z)) (sym a.2) ∙ state_last ss one some) r.above,
          );
          apart = (a.5, r.apart);
          few =
              (let l = longer_by ss one in
              let m = ap (λ (z : List (ℕ × State)). length z) a.2 in let k = r.few in omega arith);
        }

    long :
        (longer : List (ℕ × State)) → added_state master ss (placed_of w) ≡ Some longer
        → (0 < length longer) × (length longer ≤ 16)
    long longer h =
        let a = added_state_is master ss (placed_of w) longer h in
        let l = longer_by ss a.0 in
        let m = ap (λ (z : List (ℕ × State)). length z) a.2 in let k = a.3 in (omega arith, omega arith)

    next : bytes_eq w (codes "done") ≡ false → (o : Option (List (ℕ × State))) → added_state master ss (placed_of w) ≡ o
        → ((longer : List (ℕ × State)) → 0 < length longer → length longer ≤ 16
        → more_states master longer ws ≡ Some (all, rest) → ReadStates master longer ws all rest)
        → ReadStates master ss (w ∷ ws) all rest
    next d None h again =
        let both : ◌≡◌ {A = Option (List (ℕ × State) × Words)} None (Some (all, rest)) =
        sym (states_none master ss w ws d h) ∙ e in
        absurd cc
    next d (Some longer) h again =
        let l = long longer h in more longer h (again longer l.0 l.1 (sym (states_more master ss longer w ws d h) ∙ e))

    go :
        (c : Bool) → bytes_eq w (codes "done") ≡ c
        → ((longer : List (ℕ × State)) → 0 < length longer → length longer ≤ 16
        → more_states master longer ws ≡ Some (all, rest) → ReadStates master longer ws all rest)
        → ReadStates master ss (w ∷ ws) all rest
    go true h again = ended h
    go false h again = next h (added_state master ss (placed_of w)) refl again
