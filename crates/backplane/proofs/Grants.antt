-- The requests of the arbiter are those of the configuration: the same boards compete, with the same numbers, and the
-- same board wins.
use Rattle.std.proofs.Common.{◌≡◌, ℕ, zero, suc, ◌+◌, ◌-◌, ◌≤◌, Bool, true, false, cond, List, [], ◌∷◌, map, length, get_or, refl, ap, ap₂, sym, subst, ◌∙◌, ◌<◌, arith, Option, Some, option_map}
use Rattle.std.specs.Prelude.{slice_get, unwrap_or, filter, find, nat_lt, not, ◌&&◌, ◌||◌, ◌==◌}
use Rattle.std.specs.List.{list_any}
use Rattle.std.proofs.lemmas.Bool.{and_parts, both_ways}
use Rattle.std.proofs.lemmas.Bool.Decides.{nat_tests}
use Rattle.std.proofs.lemmas.List.{length-map}
use Rattle.bus_model.specs.Places.{places_from}
use Rattle.bus_model.specs.Setup.{Setup, BoardSpec, number_of}
use Rattle.bus_model.specs.Events.{Grant, Raise, Transaction}
use Rattle.bus_model.specs.Configuration.{Configuration, Progress, Arbitration, ByNumber, Fair, Idle, Granted, Connected, is_raised, is_served}
use Rattle.bus_model.specs.Arbitration.{competing, competing_numbers, is_waiting, winner_of}
use Rattle.bus_model.specs.Arbitration as model
use Rattle.bus_model.specs.Soundness.{ArbitrationFits, PartsFit}
use Rattle.bus_model.specs.Turns.{Did, Waits, BusTaken}
use Rattle.bus_model.specs.TurnParts.{grant_turn, request_turn}
use Rattle.bus_model.specs.Settling.{highest, settled_lines, settled_rounds}
use Rattle.arbiter.specs.Raised.{Requests, marked_numbers, winner_from, winner_with, competitors, contenders, waiting, does_any_wait, does_compete, has_raised}
use Rattle.backplane.specs.declared.parts.Parts.{Parts}
use Rattle.backplane.specs.Parts.{PartsShow, MarksFit, ServedFit, ArbitrationShows, IsPartOf}
use Rattle.backplane.proofs.Counted.{length-mapped}
use Rattle.backplane.proofs.Marks.{mark-read, read-index, served-index}

-- Functions of boards that give, from a place on, the numbers of these boards and what these marks say of them.
abbrev Agree : (ℕ → ℕ) → (ℕ → Bool) → ℕ → List BoardSpec → List Bool → Type 0
Agree f r k [] marks = Unit {0}
Agree f r k (spec ∷ specs) [] = ⊥
Agree f r k (spec ∷ specs) (m ∷ marks) = (f k ≡ spec.number) × (m ≡ r k) × Agree f r (suc k) specs marks

numbers-from :
    (f : ℕ → ℕ) (r : ℕ → Bool) (k : ℕ) (specs : List BoardSpec) (marks : List Bool) → Agree f r k specs marks
    → marked_numbers (map (λ (spec : BoardSpec). spec.number) specs) marks ≡ map f (filter r (places_from k specs))
numbers-from f r k [] marks agree = refl
numbers-from f r k (spec ∷ specs) [] agree = absurd agree
numbers-from f r k (spec ∷ specs) (m ∷ marks) agree =
    go m (r k) agree.1 (numbers-from f r (suc k) specs marks agree.2)
  where
    go :
        (m b : Bool) → m ≡ b
        → marked_numbers (map (λ (s : BoardSpec). s.number) specs) marks ≡ map f (filter r (places_from (suc k) specs))
        → cond m (spec.number ∷ marked_numbers (map (λ (s : BoardSpec). s.number) specs) marks)
        (marked_numbers (map (λ (s : BoardSpec). s.number) specs) marks)
        ≡ map f (cond b (k ∷ filter r (places_from (suc k) specs)) (filter r (places_from (suc k) specs)))
    go true true e rest =
        ap (λ (n : ℕ). n ∷ marked_numbers (map (λ (s : BoardSpec). s.number) specs) marks) (sym agree.0)
        ∙ ap (λ (ns : List ℕ). f k ∷ ns) rest
    go true false e rest = cc
    go false true e rest = cc
    go false false e rest = rest

winner-there :
    (f : ℕ → ℕ) (r : ℕ → Bool) (k n : ℕ) (specs : List BoardSpec) (marks : List Bool) → Agree f r k specs marks
    → winner_from k (map (λ (spec : BoardSpec). spec.number) specs) marks n
    ≡ find (λ board. f board == n) (filter r (places_from k specs))
winner-there f r k n [] marks agree = refl
winner-there f r k n (spec ∷ specs) [] agree = absurd agree
winner-there f r k n (spec ∷ specs) (m ∷ marks) agree =
    go m (r k) agree.1 (winner-there f r (suc k) n specs marks agree.2)
  where
    go : (m b : Bool) → m ≡ b
        → winner_from (suc k) (map (λ (s : BoardSpec). s.number) specs) marks n
        ≡ find (λ board. f board == n) (filter r (places_from (suc k) specs))
        → cond (m && (spec.number == n)) (Some k)
        (winner_from (suc k) (map (λ (s : BoardSpec). s.number) specs) marks n)
        ≡ find (λ board. f board == n)
        (cond b (k ∷ filter r (places_from (suc k) specs)) (filter r (places_from (suc k) specs)))
    go true true e rest =
        ap (λ (x : ℕ). cond (x == n) (Some k) (winner_from (suc k) (map (λ (s : BoardSpec). s.number) specs) marks n))
        (sym agree.0)
        ∙ ap (λ (o : Option ℕ). cond (f k == n) (Some k) o) rest
    go true false e rest = cc
    go false true e rest = cc
    go false false e rest = rest

-- Marks that say at each place what a function says of the board there.
abbrev MarkedBy : (ℕ → Bool) → List BoardSpec → List Bool → Type 0
MarkedBy r specs marks = (j : ℕ) → j < length specs → (j < length marks) × (get_or marks j false ≡ r (suc j))

agree-from :
    (setup : Setup) (r : ℕ → Bool) (k : ℕ) (specs : List BoardSpec) (marks : List Bool)
    → ((j : ℕ) → slice_get setup.boards (k + j) ≡ slice_get specs j)
    → ((j : ℕ) → j < length specs → (j < length marks) × (get_or marks j false ≡ r (suc (k + j))))
    → Agree (number_of setup) r (suc k) specs marks
agree-from setup r k [] marks hs hm = tt
agree-from setup r k (spec ∷ specs) [] hs hm = let h = (hm 0 (omega arith)).0 in omega (arith, h)
agree-from setup r k (spec ∷ specs) (m ∷ marks) hs hm =
    let first : k + 0 ≡ k = omega arith in
    let s : slice_get setup.boards k ≡ Some spec = rw first at (hs 0) in
    let b : m ≡ r (suc k) = rw first at ((hm 0 (omega arith)).1) in (
      ap (λ (o : Option BoardSpec). unwrap_or (option_map (λ (x : BoardSpec). x.number) o) 0) s,
      b,
      agree-from setup r (suc k) specs marks
          (λ j. let next : k + suc j ≡ suc k + j = omega arith in rw next at (hs (suc j)))
          (λ j low.
          let next : k + suc j ≡ suc k + j = omega arith in
          let h = hm (suc j) (omega (arith, low)) in
          let within = h.0 in
          (omega (arith, within), rw next at (h.1))),
    )

agree-all :
    (setup : Setup) (r : ℕ → Bool) (marks : List Bool) → MarkedBy r setup.boards marks
    → Agree (number_of setup) r 1 setup.boards marks
agree-all setup r marks h =
    agree-from setup r 0 setup.boards marks
    (λ j. let e : 0 + j ≡ j = omega arith in ap (slice_get setup.boards) e)
    (λ j low.
    let one = h j low in
    let e : 0 + j ≡ j = omega arith in
    (one.0, one.1 ∙ ap (λ n. r (suc n)) (sym e)))

places-same :
    {X Y : Type 0} (k : ℕ) (xs : List X) (ys : List Y) → length xs ≡ length ys → places_from k xs ≡ places_from k ys
places-same k [] [] l = refl
places-same k [] (y ∷ ys) l = absurd (omega (arith, l))
places-same k (x ∷ xs) [] l = absurd (omega (arith, l))
places-same k (x ∷ xs) (y ∷ ys) l = ap (λ (ns : List ℕ). k ∷ ns) (places-same (suc k) xs ys (omega (arith, l)))

-- ---- which boards compete

marks-long : (boards : List Progress) (marks : List Bool) → MarksFit boards marks → length boards ≤ length marks
marks-long [] marks fit = omega arith
marks-long (p ∷ boards) [] fit = absurd fit
marks-long (p ∷ boards) (m ∷ marks) fit = let h = marks-long boards marks fit.1 in omega (arith, h)

served-long : (served marks : List Bool) → ServedFit served marks → length served ≤ length marks
served-long [] marks fit = omega arith
served-long (s ∷ served) [] fit = absurd fit
served-long (s ∷ served) (m ∷ marks) fit = let h = served-long served marks fit.1 in omega (arith, h)

waiting-at :
    (raised served : List Bool) (j : ℕ) → j < length raised → j < length served
    → (j < length (waiting raised served))
    × (get_or (waiting raised served) j false ≡ (get_or raised j false && not (get_or served j false)))
waiting-at [] served j h k = absurd (omega arith)
waiting-at (r ∷ raised) [] j h k = absurd (omega arith)
waiting-at (r ∷ raised) (s ∷ served) zero h k = (omega arith, refl)
waiting-at (r ∷ raised) (s ∷ served) (suc j) h k =
    let rest = waiting-at raised served j (omega arith) (omega arith) in
    let within = rest.0 in
    (omega (arith, within), rest.1)

positive : (n : ℕ) → nat_lt 0 (suc n) ≡ true
positive n = grind (arith, nat_tests)

some-passes : {X : Type 0} (p : X → Bool) (xs : List X) → nat_lt 0 (length (filter p xs)) ≡ list_any p xs
some-passes p [] = refl
some-passes p (x ∷ xs) = go (p x) (some-passes p xs)
  where
    go :
        (b : Bool) → nat_lt 0 (length (filter p xs)) ≡ list_any p xs
        → nat_lt 0 (length (cond b (x ∷ filter p xs) (filter p xs))) ≡ (b || list_any p xs)
    go true rest = positive (length (filter p xs))
    go false rest = rest

module _ (setup : Setup) (c : Configuration) (p : Parts) (s : PartsShow setup c p) (fit : PartsFit setup c) where
  raised-by : MarkedBy (is_raised c.boards) setup.boards p.requests.raised
  raised-by j low =
      let long = marks-long c.boards p.requests.raised s.raised in
      let same = fit.boards in (
        omega (arith, long, same, low),
        read-index c.boards p.requests.raised j s.raised (omega (arith, same, low)),
      )

  module _ (served : List Bool) (h : ServedFit served p.requests.served)
      (long : length served ≡ length setup.boards) where
    waiting-by :
        MarkedBy (is_waiting served c.boards) setup.boards (waiting p.requests.raised p.requests.served)
    waiting-by j low =
        let r = raised-by j low in
        let more = served-long served p.requests.served h in
        let at = served-index served p.requests.served j h (omega (arith, long, low)) in
        let w = waiting-at p.requests.raised p.requests.served j r.0 (omega (arith, more, long, low)) in
        (w.0, w.1 ∙ ap₂ (λ a b. a && not b) r.1 at)

    pub any-shown : does_any_wait p.requests ≡ model.does_any_wait served c.boards
    any-shown =
        let r = is_waiting served c.boards in
        let list = waiting p.requests.raised p.requests.served in
        ap (λ (ns : List ℕ). nat_lt 0 (length (marked_numbers ns list))) s.numbers
        ∙ ap (λ (ns : List ℕ). nat_lt 0 (length ns))
        (numbers-from (number_of setup) r 1 setup.boards list (agree-all setup r list waiting-by))
        ∙ ap (λ (n : ℕ). nat_lt 0 n) (length-map (filter r (places_from 1 setup.boards)) (number_of setup))
        ∙ some-passes r (places_from 1 setup.boards)
        ∙ ap (list_any r) (places-same 1 setup.boards c.boards (sym fit.boards))

    fair-by :
        (w : Bool) → model.does_any_wait served c.boards ≡ w
        → MarkedBy (model.does_compete (Fair served) c.boards) setup.boards
        (cond w (waiting p.requests.raised p.requests.served) p.requests.raised)
    fair-by true e j low =
        let r = waiting-by j low in
        (r.0, r.1 ∙ sym (ap (λ w. is_raised c.boards (suc j) && (not w || not (is_served served (suc j)))) e))
    fair-by false e j low =
        let r = raised-by j low in (
          r.0,
          r.1 ∙ sym (and-true (is_raised c.boards (suc j)))
              ∙ sym (ap (λ w. is_raised c.boards (suc j) && (not w || not (is_served served (suc j)))) e),
        )
      where
        and-true : (b : Bool) → (b && true) ≡ b
        and-true true = refl
        and-true false = refl

  contenders-by : MarkedBy (model.does_compete c.arbitration c.boards) setup.boards (contenders p.requests)
  contenders-by = go c.arbitration s.arbitration fit.arbitration
    where
      who :
          {fair : Bool} → p.requests.fair ≡ fair
          → contenders p.requests
          ≡ cond (fair && does_any_wait p.requests) (waiting p.requests.raised p.requests.served) p.requests.raised
      who e =
          ap (λ b. cond (b && does_any_wait p.requests) (waiting p.requests.raised p.requests.served) p.requests.raised)
          e

      go :
          (a : Arbitration) → ArbitrationShows a p.requests → ArbitrationFits setup a
          → MarkedBy (model.does_compete a c.boards) setup.boards (contenders p.requests)
      go ByNumber h f =
          let same : contenders p.requests ≡ p.requests.raised = who h in
          subst (λ (marks : List Bool). MarkedBy (model.does_compete ByNumber c.boards) setup.boards marks) (sym same)
          raised-by
      go (Fair served) h f =
          let same : contenders p.requests
          ≡ cond (model.does_any_wait served c.boards) (waiting p.requests.raised p.requests.served)
          p.requests.raised =
          who h.0
          ∙ ap (λ b. cond b (waiting p.requests.raised p.requests.served) p.requests.raised)
          (any-shown served h.1 f.1) in
          subst (λ (marks : List Bool). MarkedBy (model.does_compete (Fair served) c.boards) setup.boards marks)
          (sym same) (fair-by served h.1 f.1 (model.does_any_wait served c.boards) refl)

  -- The numbers that compete are the model's.
  pub competitors-shown : competitors p.requests ≡ competing_numbers setup c.arbitration c.boards
  competitors-shown =
      let r = model.does_compete c.arbitration c.boards in
      ap (λ (ns : List ℕ). marked_numbers ns (contenders p.requests)) s.numbers
      ∙ numbers-from (number_of setup) r 1 setup.boards (contenders p.requests)
      (agree-all setup r (contenders p.requests) contenders-by)
      ∙ ap (λ (places : List ℕ). map (number_of setup) (filter r places))
      (places-same 1 setup.boards c.boards (sym fit.boards))

  -- The first competing board with a number is the model's.
  pub winner-shown :
      (n : ℕ)
      → winner_with p.requests n ≡ find (λ board. number_of setup board == n) (competing c.arbitration c.boards)
  winner-shown n =
      let r = model.does_compete c.arbitration c.boards in
      ap (λ (ns : List ℕ). winner_from 1 ns (contenders p.requests) n) s.numbers
      ∙ winner-there (number_of setup) r 1 n setup.boards (contenders p.requests)
      (agree-all setup r (contenders p.requests) contenders-by)
      ∙ ap (λ (places : List ℕ). find (λ board. number_of setup board == n) (filter r places))
      (places-same 1 setup.boards c.boards (sym fit.boards))

  -- A board competes where the model says so.
  pub competes-shown :
      (b : ℕ) → 1 ≤ b → b ≤ length setup.boards
      → does_compete p.requests b ≡ model.does_compete c.arbitration c.boards b
  competes-shown zero low high = absurd (omega arith)
  competes-shown (suc k) low high =
      let same : suc k - 1 ≡ k = omega arith in
      ap (λ n. get_or (contenders p.requests) n false) same ∙ (contenders-by k high).1

-- A board has raised a request where the model says so.
pub raised-shown :
    (setup : Setup) (c : Configuration) (p : Parts) (b : ℕ) → PartsShow setup c p → IsPartOf p b
    → has_raised p.requests b ≡ is_raised c.boards b
raised-shown setup c p b s is =
    let long : length p.places.items ≡ length c.boards =
    ap (λ (ns : List ℕ). length ns) s.places ∙ length-mapped (λ (q : Progress). q.place) c.boards in
    let high : b ≤ length c.boards = let h = is.places in omega (arith, h, long) in
    mark-read c.boards p.requests.raised b s.raised is.low high

some-number :
    (numbers : List ℕ) (raised : List Bool) (k : ℕ) → suc k ≤ length numbers → get_or raised k false ≡ true
    → marked_numbers numbers raised ≡ [] → ⊥
some-number [] raised k l h e = absurd (omega arith)
some-number (n ∷ numbers) [] k l h e = cc
some-number (n ∷ numbers) (true ∷ raised) k l h e = cc
some-number (n ∷ numbers) (false ∷ raised) zero l h e = cc
some-number (n ∷ numbers) (false ∷ raised) (suc k) l h e = some-number numbers raised k (omega arith) h e

-- Where a board has raised a request, somebody competes.
pub some-competes :
    (requests : Requests) (b : ℕ) → 1 ≤ b → b ≤ length requests.numbers → has_raised requests b ≡ true
    → competitors requests ≡ [] → ⊥
some-competes requests zero low high h e = absurd (omega arith)
some-competes requests (suc k) low high h e = go (requests.fair && does_any_wait requests) refl e
  where
    same : suc k - 1 ≡ k
    same = omega arith

    go :
        (b : Bool) → (requests.fair && does_any_wait requests) ≡ b
        → marked_numbers requests.numbers (cond b (waiting requests.raised requests.served) requests.raised) ≡ [] → ⊥
    go true w e =
        let any : does_any_wait requests ≡ true = (and_parts requests.fair (does_any_wait requests) w).1 in
        let none : does_any_wait requests ≡ false = ap (λ (ns : List ℕ). nat_lt 0 (length ns)) e in
        both_ways (does_any_wait requests) none any
    go false w e = some-number requests.numbers requests.raised k high (rw same at h) e

-- The arbiter's answer to a contest is the model's grant.
pub grant-told :
    (setup : Setup) (c : Configuration) (p : Parts) (b winner lines rounds : ℕ) → PartsShow setup c p
    → PartsFit setup c
    → winner_with p.requests (highest (competitors p.requests)) ≡ Some winner
    → lines ≡ settled_lines (competitors p.requests) → rounds ≡ settled_rounds (competitors p.requests)
    → Did (Grant b winner lines rounds) ≡ grant_turn setup c b
grant-told setup c p b winner lines rounds s fit first is_lines is_rounds =
    let a = c.arbitration in
    let numbers = competitors-shown setup c p s fit in
    let found : find (λ board. number_of setup board == highest (competing_numbers setup a c.boards))
    (competing a c.boards) ≡ Some winner =
    ap (λ (ns : List ℕ). find (λ board. number_of setup board == highest ns) (competing a c.boards)) (sym numbers)
    ∙ sym (winner-shown setup c p s fit (highest (competitors p.requests))) ∙ first in
    let who : winner ≡ winner_of setup a c.boards = sym (ap (λ (o : Option ℕ). unwrap_or o 0) found) in
    ap (λ (w : ℕ). Did (Grant b w lines rounds)) who
    ∙ ap (λ (n : ℕ). Did (Grant b (winner_of setup a c.boards) n rounds)) (is_lines ∙ ap settled_lines numbers)
    ∙ ap (λ (n : ℕ). Did (Grant b (winner_of setup a c.boards) (settled_lines (competing_numbers setup a c.boards)) n))
    (is_rounds ∙ ap settled_rounds numbers)

-- What a board without a grant does for the bus.
pub asks :
    (setup : Setup) (c : Configuration) (b : ℕ) → is_raised c.boards b ≡ false
    → Did (Raise b) ≡ request_turn setup c b (is_raised c.boards b) c.phase
asks setup c b h = rw h refl

pub waits-granted :
    (setup : Setup) (c : Configuration) (b g : ℕ) → is_raised c.boards b ≡ true → Granted g ≡ c.phase
    → Waits (BusTaken g) ≡ request_turn setup c b (is_raised c.boards b) c.phase
waits-granted setup c b g h e = rw (h, ← e) refl

pub waits-connected :
    (setup : Setup) (c : Configuration) (b : ℕ) (t : Transaction) → is_raised c.boards b ≡ true → Connected t ≡ c.phase
    → Waits (BusTaken t.master) ≡ request_turn setup c b (is_raised c.boards b) c.phase
waits-connected setup c b t h e = rw (h, ← e) refl

pub grants-idle :
    (setup : Setup) (c : Configuration) (b : ℕ) → is_raised c.boards b ≡ true → Idle ≡ c.phase
    → grant_turn setup c b ≡ request_turn setup c b (is_raised c.boards b) c.phase
grants-idle setup c b h e = rw (h, ← e) refl
