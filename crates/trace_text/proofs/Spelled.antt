-- Words of boards with states and signals, and of sources, are read exactly where they are spelled.
use Rattle.std.proofs.Common.{◌≡◌, ℕ, inr, Bool, true, false, cond, List, [], ◌∷◌, ◌++◌, take, drop, Option, Some, None, refl, sym, ap, ◌∙◌, subst, arith}
use Rattle.std.specs.Prelude.{decimal, codes}
use Rattle.std.specs.List.{join_with_byte}
use Rattle.std.specs.Str.{bytes_eq}
use Rattle.std.proofs.lemmas.List.Splits.{join_with_byte-slice_split}
use Rattle.fb_text.specs.Places.{Words}
use Rattle.fb_text.specs.Number.{number_of}
use Rattle.bus_signals.specs.declared.Response.{Response}
use Rattle.moesi_state.specs.declared.State.{State}
use Rattle.moesi_state.specs.declared.State.TheVariants.{M, O, E, S, I}
use Rattle.class_relation.specs.declared.SnoopAction.{SnoopAction}
use Rattle.journal.specs.declared.answers.Answer.{Answer}
use Rattle.journal.specs.declared.event.Source.{Source}
use Rattle.journal.specs.declared.event.Source.TheVariants.{Nobody, Memory, Board}
use Rattle.class_words.specs.Words.{state_word, state_of}
use Rattle.class_words.proofs.WordLaws.{state_is, state_again}
use Rattle.trace_text.specs.Spelling.{placed_word, mark, signals_text, answer_word, source_word}
use Rattle.trace_text.specs.Ranges.{IsBoard, IsSource}
use Rattle.trace_text.specs.Reading.{◌>>=◌, pieces, two_sides, sides_of, board_of, placed_of, response, response_of, action_of, answer_of, source_of}
use Rattle.trace_text.proofs.Binds.{bind_some, some_same, is_word}
use Rattle.trace_text.proofs.Numbers.{board_is, board_again}
use Rattle.trace_text.proofs.Bytes.{NoneOf, none_append, two_pieces, decimal_none}

-- ---- both sides of the `=`

two_is : (ws : Words) (s : List ℕ × List ℕ) → two_sides ws ≡ Some s → ws ≡ s.0 ∷ s.1 ∷ []
two_is [] s e = absurd cc
two_is (a ∷ []) s e = absurd cc
two_is (a ∷ b ∷ []) s e =
    let same = some_same {A = List ℕ × List ℕ} (a, b) s e in ap (λ (z : List ℕ × List ℕ). z.0 ∷ z.1 ∷ []) same
two_is (a ∷ b ∷ c ∷ more) s e = absurd cc

sides_is : (w : List ℕ) (s : List ℕ × List ℕ) → sides_of w ≡ Some s → w ≡ s.0 ++ 61 ∷ s.1
sides_is w s e = sym (join_with_byte-slice_split 61 w) ∙ ap (join_with_byte 61) (two_is (pieces 61 w) s e)

sides_again : (x y : List ℕ) → NoneOf 61 x → NoneOf 61 y → sides_of (x ++ 61 ∷ y) ≡ Some (x, y)
sides_again x y h k = ap two_sides (two_pieces 61 x y h k)

board_no_equals : (b : ℕ) → IsBoard b → NoneOf 61 (decimal b)
board_no_equals b h = decimal_none 61 b (let k = h.1 in omega arith) (inr (omega arith))

state_no_equals : (s : State) → NoneOf 61 (state_word s)
state_no_equals M = (refl, tt)
state_no_equals O = (refl, tt)
state_no_equals E = (refl, tt)
state_no_equals S = (refl, tt)
state_no_equals I = (refl, tt)

-- ---- a board and a state

pub placed_again : (p : ℕ × State) → IsBoard p.0 → placed_of (placed_word p) ≡ Some p
unfolding placed_of
placed_again p h =
    rw (
      sides_again (decimal p.0) (state_word p.1) (board_no_equals p.0 h) (state_no_equals p.1),
      board_again p.0 h,
      state_again p.1,
    ) refl

pub placed_is : (w : List ℕ) (p : ℕ × State) → placed_of w ≡ Some p → (w ≡ placed_word p) × IsBoard p.0
unfolding placed_of
placed_is w p e =
    let s = bind_some (sides_of w) (λ s. board_of s.0 >>= λ b. state_of s.1 >>= λ state. Some (b, state)) p e in
    let b = bind_some (board_of s.0.0) (λ b. state_of s.0.1 >>= λ state. Some (b, state)) p s.2 in
    let t = bind_some (state_of s.0.1) (λ state. Some (b.0, state)) p b.2 in
    let same : (b.0, t.0) ≡ p = some_same (b.0, t.0) p t.2 in
    let board = board_is s.0.0 b.0 b.1 in
    let spelled : w ≡ placed_word (b.0, t.0) = sides_is w s.0 s.1 ∙ (λ i. board.0 i ++ 61 ∷ state_is s.0.1 t.0 t.1 i) in
    (spelled ∙ ap placed_word same, subst (λ (z : ℕ × State). IsBoard z.0) same board.1)

-- ---- signals

-- The signals were found at this text, or after it.
tried :
    (w : List ℕ) (x y : Response) (rest : Option Response) → (rest ≡ Some y → w ≡ signals_text y)
    → cond (bytes_eq w (signals_text x)) (Some x) rest ≡ Some y → w ≡ signals_text y
tried w x y rest behind e = go (bytes_eq w (signals_text x)) refl e
  where
    go : (b : Bool) → bytes_eq w (signals_text x) ≡ b → cond b (Some x) rest ≡ Some y → w ≡ signals_text y
    go true h e = let same = some_same x y e in is_word w (signals_text x) h ∙ ap signals_text same
    go false h e = behind e

response_is : (w : List ℕ) (r : Response) → response_of w ≡ Some r → w ≡ signals_text r
unfolding response_of
response_is w r e =
    tried w (response false false false) r _
    (tried w (response true false false) r _
    (tried w (response false true false) r _ (tried w (response false false true) r _
    (tried w (response true true false) r _
    (tried w (response true false true) r _
    (tried w (response false true true) r _ (tried w (response true true true) r _ (λ e. absurd cc)))))))) e

response_again : (r : Response) → response_of (signals_text r) ≡ Some r
unfolding response_of
response_again r = go r.ch r.di r.sl
  where
    go : (ch di sl : Bool) → response_of (signals_text (response ch di sl)) ≡ Some (response ch di sl)
    go false false false = refl
    go false false true = refl
    go false true false = refl
    go false true true = refl
    go true false false = refl
    go true false true = refl
    go true true false = refl
    go true true true = refl

signals_no_equals : (r : Response) → NoneOf 61 (signals_text r)
signals_no_equals r =
    none_append 61 (mark r.ch (codes "+CH")) (mark r.di (codes "+DI") ++ mark r.sl (codes "+SL")) (ch r.ch)
    (none_append 61 (mark r.di (codes "+DI")) (mark r.sl (codes "+SL")) (di r.di) (sl r.sl))
  where
    ch : (b : Bool) → NoneOf 61 (mark b (codes "+CH"))
    ch true = (refl, (refl, (refl, tt)))
    ch false = tt

    di : (b : Bool) → NoneOf 61 (mark b (codes "+DI"))
    di true = (refl, (refl, (refl, tt)))
    di false = tt

    sl : (b : Bool) → NoneOf 61 (mark b (codes "+SL"))
    sl true = (refl, (refl, (refl, tt)))
    sl false = tt

-- ---- answers

action_again : (a : SnoopAction) → action_of (state_word a.result ++ signals_text a.response) ≡ Some a
unfolding action_of state_of
action_again a = go a.result
  where
    go :
        (s : State)
        → action_of (state_word s ++ signals_text a.response) ≡ Some (record { result = s; response = a.response })
    go M = rw (response_again a.response) refl
    go O = rw (response_again a.response) refl
    go E = rw (response_again a.response) refl
    go S = rw (response_again a.response) refl
    go I = rw (response_again a.response) refl

front_and_back : (w : List ℕ) → w ≡ take 1 w ++ drop 1 w
front_and_back [] = refl
front_and_back (b ∷ w) = refl

action_is : (w : List ℕ) (a : SnoopAction) → action_of w ≡ Some a → w ≡ state_word a.result ++ signals_text a.response
unfolding action_of
action_is w a e =
    let s = bind_some (state_of (take 1 w))
    (λ state. response_of (drop 1 w) >>= λ r. Some (record { result = state; response = r })) a e in
    let r = bind_some (response_of (drop 1 w)) (λ r. Some (record { result = s.0; response = r })) a s.2 in
    let made : SnoopAction = record { result = s.0; response = r.0 } in
    let same : made ≡ a = some_same made a r.2 in
    front_and_back w
    ∙ ((λ i. state_is (take 1 w) s.0 s.1 i ++ response_is (drop 1 w) r.0 r.1 i)
    ∙ ap (λ (z : SnoopAction). state_word z.result ++ signals_text z.response) same)

pub answer_again : (a : Answer) → IsBoard a.board → answer_of (answer_word a) ≡ Some a
unfolding answer_of
answer_again a h =
    let right : List ℕ = state_word a.action.result ++ signals_text a.action.response in
    let none : NoneOf 61 right =
    none_append 61 (state_word a.action.result) (signals_text a.action.response) (state_no_equals a.action.result)
    (signals_no_equals a.action.response) in
    rw (
      sides_again (decimal a.board) right (board_no_equals a.board h) none,
      board_again a.board h,
      action_again a.action,
    ) refl

pub answer_is : (w : List ℕ) (a : Answer) → answer_of w ≡ Some a → (w ≡ answer_word a) × IsBoard a.board
unfolding answer_of
answer_is w a e =
    let s = bind_some (sides_of w)
    (λ s. board_of s.0 >>= λ b. action_of s.1 >>= λ x. Some (record { board = b; action = x })) a e in
    let b = bind_some (board_of s.0.0) (λ b. action_of s.0.1 >>= λ x. Some (record { board = b; action = x })) a s.2 in
    let x = bind_some (action_of s.0.1) (λ x. Some (record { board = b.0; action = x })) a b.2 in
    let made : Answer = record { board = b.0; action = x.0 } in
    let same : made ≡ a = some_same made a x.2 in
    let board = board_is s.0.0 b.0 b.1 in
    let spelled : w ≡ answer_word made = sides_is w s.0 s.1 ∙ (λ i. board.0 i ++ 61 ∷ action_is s.0.1 x.0 x.1 i) in
    (spelled ∙ ap answer_word same, subst (λ (z : Answer). IsBoard z.board) same board.1)

-- ---- sources

-- A word that spells no board.
no_board : (w : List ℕ) (b : ℕ) → number_of w ≡ None → IsBoard b → bytes_eq (decimal b) w ≡ false
no_board w b none h = go (bytes_eq (decimal b) w) refl
  where
    go : (c : Bool) → bytes_eq (decimal b) w ≡ c → c ≡ false
    go true k =
        let both : ◌≡◌ {A = Option ℕ} (board_of w) (Some b) =
        ap board_of (sym (is_word (decimal b) w k)) ∙ board_again b h in
        let gone : ◌≡◌ {A = Option ℕ} (board_of w) None = rw none refl in absurd cc
    go false k = refl

pub none_is_no_number : number_of (codes "none") ≡ None
unfolding number_of
none_is_no_number = refl

pub memory_is_no_number : number_of (codes "memory") ≡ None
unfolding number_of
memory_is_no_number = refl

pub source_again : (s : Source) → IsSource s → source_of (source_word s) ≡ Some s
unfolding source_of
source_again Nobody h = refl
source_again Memory h = refl
source_again (Board b) h =
    rw
    (no_board (codes "none") b none_is_no_number h, no_board (codes "memory") b memory_is_no_number h, board_again b h)
    refl

pub source_is : (w : List ℕ) (s : Source) → source_of w ≡ Some s → (w ≡ source_word s) × IsSource s
unfolding source_of
source_is w s e = go (bytes_eq w (codes "none")) refl e
  where
    board : (o : Option ℕ) → board_of w ≡ o → (o >>= λ b. Some (Board b)) ≡ Some s → (w ≡ source_word s) × IsSource s
    board None h e = absurd cc
    board (Some b) h e =
        let same = some_same (Board b) s e in
        let is = board_is w b h in (is.0 ∙ ap source_word same, subst IsSource same is.1)

    memory :
        (c : Bool) → bytes_eq w (codes "memory") ≡ c
        → cond c (Some Memory) (board_of w >>= λ b. Some (Board b)) ≡ Some s → (w ≡ source_word s) × IsSource s
    memory true h e =
        let same = some_same Memory s e in (is_word w (codes "memory") h ∙ ap source_word same, subst IsSource same tt)
    memory false h e = board (board_of w) refl e

    go :
        (c : Bool) → bytes_eq w (codes "none") ≡ c
        → cond c (Some Nobody) (cond (bytes_eq w (codes "memory")) (Some Memory) (board_of w >>= λ b. Some (Board b)))
        ≡ Some s → (w ≡ source_word s) × IsSource s
    go true h e =
        let same = some_same Nobody s e in (is_word w (codes "none") h ∙ ap source_word same, subst IsSource same tt)
    go false h e = memory (bytes_eq w (codes "memory")) refl e
