-- The answers of the boards, one board after another.
use Rattle.std.proofs.Common.{List, [], arith, drop, false, length, refl, suc, sym, true, zero, ℕ, ap, ◌+◌, ◌<◌, ◌∙◌, ◌∷◌, ◌≡◌, ◌≤◌, ◌==◌, ◌⊎◌, inl, inr}
use Rattle.std.proofs.lemmas.Bool.{cases_lt, eq-eqb, ne_eqb}
use Rattle.bus_signals.specs.declared.BusEvent.{BusEvent}
use Rattle.board.specs.Rack.{Rack, setup_of}
use Rattle.bus_model.specs.Configuration.{Row}
use Rattle.bus_model.specs.Events.{Answer, Transaction}
use Rattle.bus_model.specs.Places.{places_from}
use Rattle.bus_model.specs.Setup.{BoardSpec, Setup, board_places}
use Rattle.backplane.specs.Permits.{do_answers_fit, do_fit_among}

drop_places :
    (k n : ℕ) (specs : List BoardSpec) → n < length specs
    → drop n (places_from k specs) ≡ (k + n) ∷ drop (suc n) (places_from k specs)
drop_places k n [] h = absurd (omega arith)
drop_places k zero (s ∷ specs) h = let same : k ≡ k + 0 = omega arith in ap (λ m. m ∷ places_from (suc k) specs) same
drop_places k (suc n) (s ∷ specs) h =
    let same : suc k + n ≡ k + suc n = omega arith in
    drop_places (suc k) n specs (omega arith) ∙ ap (λ m. m ∷ drop (suc n) (places_from (suc k) specs)) same

no_places : (k n : ℕ) (specs : List BoardSpec) → length specs ≤ n → drop n (places_from k specs) ≡ []
no_places k zero [] h = refl
no_places k (suc n) [] h = refl
no_places k zero (s ∷ specs) h = absurd (omega arith)
no_places k (suc n) (s ∷ specs) h = no_places (suc k) n specs (omega arith)

-- The next board, and those after it.
pub next_board : (rack : Rack) (t : Transaction) (place board count : ℕ) → place < length rack.specs → board ≡ place + 1
    → do_fit_among rack t (drop place (board_places (setup_of rack))) (drop count t.answers)
    ≡ do_fit_among rack t (board ∷ drop (place + 1) (board_places (setup_of rack))) (drop count t.answers)
next_board rack t place board count h e =
    let one : 1 + place ≡ board = omega arith in
    let more : suc place ≡ place + 1 = omega arith in
    ap (λ places. do_fit_among rack t places (drop count t.answers))
    (drop_places 1 place rack.specs h ∙ ap (λ m. m ∷ drop (suc place) (places_from 1 rack.specs)) one
    ∙ ap (λ m. board ∷ drop m (places_from 1 rack.specs)) more)

module _ (setup : Setup) (rows : List Row) (line : ℕ) (event : BusEvent) where
  all_taken :
      (answers : List Answer) (count : ℕ) → count ≡ length answers
      → do_answers_fit setup rows line event [] (drop count answers) ≡ true
  all_taken [] zero e = refl
  all_taken [] (suc count) e = absurd (omega (arith, e))
  all_taken (a ∷ answers) zero e = absurd (omega (arith, e))
  all_taken (a ∷ answers) (suc count) e = all_taken answers count (omega (arith, e))

  some_left :
      (answers : List Answer) (count : ℕ) → count < length answers
      → do_answers_fit setup rows line event [] (drop count answers) ≡ false
  some_left [] count h = absurd (omega arith)
  some_left (a ∷ answers) zero h = refl
  some_left (a ∷ answers) (suc count) h = some_left answers count (omega arith)

  taken_is :
      (answers : List Answer) (count : ℕ) → count ≤ length answers
      → (count == length answers) ≡ do_answers_fit setup rows line event [] (drop count answers)
  taken_is answers count within = go (cases_lt count (length answers))
    where
      go :
          (count < length answers) ⊎ (length answers ≤ count)
          → (count == length answers) ≡ do_answers_fit setup rows line event [] (drop count answers)
      go (inl h) = ne_eqb count (length answers) (λ e. omega (arith, h, e)) ∙ sym (some_left answers count h)
      go (inr h) =
          let e : count ≡ length answers = omega arith in
          eq-eqb count (length answers) e ∙ sym (all_taken answers count e)

-- After the last board all answers must be taken.
pub last_board :
    (rack : Rack) (t : Transaction) (place count : ℕ) → length rack.specs ≤ place → count ≤ length t.answers
    → (count == length t.answers)
    ≡ do_fit_among rack t (drop place (board_places (setup_of rack))) (drop count t.answers)
last_board rack t place count past within =
    taken_is (setup_of rack) rack.rows t.line t.event t.answers count within
    ∙ ap (λ places. do_fit_among rack t places (drop count t.answers)) (sym (no_places 1 place rack.specs past))
