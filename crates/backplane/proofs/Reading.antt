-- What the machine shows is what its configuration has.
use Rattle.std.proofs.Common.{◌≡◌, ℕ, zero, suc, ◌+◌, ◌*◌, ◌<◌, ◌≤◌, Bool, true, false, cond, List, [], ◌∷◌, length, refl, ap, sym, ◌∙◌, arith, Option, Some, None, ◌⊎◌, inl, inr}
use Rattle.std.specs.Prelude.{find, is_some}
use Rattle.std.proofs.lemmas.Bool.{eq-eqb, both_ways, cases_lt}
use Rattle.bus_signals.specs.declared.Access.{Access}
use Rattle.bus_model.specs.Places.{places_from}
use Rattle.bus_model.specs.Setup.{Setup, BoardSpec, WellFormed, line_count, board_places}
use Rattle.bus_model.specs.Configuration.{Configuration, Phase, Idle, Granted, Connected, lines_of_words, present_access, is_granted, is_connected}
use Rattle.bus_model.specs.Runs.{Complete}
use Rattle.bus_model.specs.Soundness.{Sound}
use Rattle.coherence.proofs.Progress.{board_there}
use Rattle.backplane.specs.declared.parts.Parts.{Parts}
use Rattle.backplane.specs.Machine.{Machine, configuration}
use Rattle.backplane.specs.Parts.{PartsShow}

-- The first board at which a test passes.
pub find-first :
    {X : Type 0} (test : ℕ → Bool) (k n : ℕ) (xs : List X) → ((j : ℕ) → j < n → test (k + j) ≡ false)
    → test (k + n) ≡ true → n < length xs → find test (places_from k xs) ≡ Some (k + n)
find-first test k n [] before here within = absurd (omega arith)
find-first test k zero (x ∷ xs) before here within =
    let e : k + 0 ≡ k = omega arith in
    let at : test k ≡ true = ap test (sym e) ∙ here in
    ap (λ (t : Bool). cond t (Some k) (find test (places_from (suc k) xs))) at ∙ ap (λ (m : ℕ). Some m) (sym e)
find-first test k (suc n) (x ∷ xs) before here within =
    let e : k + 0 ≡ k = omega arith in
    let next : suc k + n ≡ k + suc n = omega arith in
    let at : test k ≡ false = ap test (sym e) ∙ before 0 (omega arith) in
    ap (λ (t : Bool). cond t (Some k) (find test (places_from (suc k) xs))) at
    ∙ find-first test (suc k) n xs
    (λ j l. let s : suc k + j ≡ k + suc j = omega arith in ap test s ∙ before (suc j) (omega arith))
    (ap test next ∙ here) (omega arith)
    ∙ ap (λ (m : ℕ). Some m) next

pub find-no :
    {X : Type 0} (test : ℕ → Bool) (k : ℕ) (xs : List X) → ((j : ℕ) → j < length xs → test (k + j) ≡ false)
    → find test (places_from k xs) ≡ None
find-no test k [] all = refl
find-no test k (x ∷ xs) all =
    let e : k + 0 ≡ k = omega arith in
    let at : test k ≡ false = ap test (sym e) ∙ all 0 (omega arith) in
    ap (λ (t : Bool). cond t (Some k) (find test (places_from (suc k) xs))) at
    ∙ find-no test (suc k) xs
    (λ j l. let s : suc k + j ≡ k + suc j = omega arith in ap test s ∙ all (suc j) (omega arith))

-- A board has nothing more to do in a configuration.
abbrev pub test_of : Machine → ℕ → Bool
test_of m board = is_some (present_access m.setup (configuration m).boards board)

-- The boards before a place have nothing more to do.
abbrev pub DoneBefore : Machine → ℕ → Type 0
DoneBefore m n = (j : ℕ) → j < n → test_of m (1 + j) ≡ false

pub done-more : (m : Machine) (n : ℕ) → DoneBefore m n → test_of m (1 + n) ≡ false → DoneBefore m (n + 1)
done-more m n before here j l = go (cases_lt j n)
  where
    go : (j < n) ⊎ (n ≤ j) → test_of m (1 + j) ≡ false
    go (inl lower) = before j lower
    go (inr same) = let e : n ≡ j = omega arith in ap (λ (k : ℕ). test_of m (1 + k)) (sym e) ∙ here

none-of : (o : Option Access) → is_some o ≡ false → o ≡ None
none-of None e = refl
none-of (Some access) e = cc

-- Where no board of the setup has more to do, no board has.
all-done :
    (m : Machine) → WellFormed m.setup → DoneBefore m (length m.setup.boards) → (board : ℕ)
    → present_access m.setup (configuration m).boards board ≡ None
all-done m well done board = go board refl (present_access m.setup (configuration m).boards board) refl
  where
    go :
        (b : ℕ) → board ≡ b → (o : Option Access) → present_access m.setup (configuration m).boards board ≡ o
        → present_access m.setup (configuration m).boards board ≡ None
    go b same None e = e
    go zero same (Some access) e =
        let there = board_there m.setup (configuration m).boards board access well e in
        let low = there.low in absurd (omega (arith, low, same))
    go (suc k) same (Some access) e =
        let there = board_there m.setup (configuration m).boards board access well e in
        let high = there.high in
        let one : 1 + k ≡ board = omega (arith, same) in
        none-of (present_access m.setup (configuration m).boards board)
        (ap (test_of m) (sym one) ∙ done k (omega (arith, high, same)))

no-grant :
    (m : Machine) → Sound m.setup m.journal (configuration m)
    → ((board : ℕ) → present_access m.setup (configuration m).boards board ≡ None) → (phase : Phase)
    → (configuration m).phase ≡ phase → phase ≡ Idle
no-grant m sound none Idle e = refl
no-grant m sound none (Granted b) e =
    let some : test_of m b ≡ true =
    (sound.requests b).granted (ap (λ (q : Phase). is_granted q b) e ∙ eq-eqb b b refl) in
    let no : test_of m b ≡ false = ap is_some (none b) in
    absurd (both_ways (test_of m b) no some)
no-grant m sound none (Connected t) e =
    let some : test_of m t.master ≡ true =
    (sound.requests t.master).connected
    (ap (λ (q : Phase). is_connected q t.master) e ∙ eq-eqb t.master t.master refl) in
    let no : test_of m t.master ≡ false = ap is_some (none t.master) in
    absurd (both_ways (test_of m t.master) no some)

-- Where every script is at its end, the run is complete.
pub complete-is :
    (m : Machine) → WellFormed m.setup → Sound m.setup m.journal (configuration m)
    → DoneBefore m (length m.setup.boards) → Complete m.setup (configuration m)
complete-is m well sound done =
    let none = all-done m well done in
    record { scripts = none; idle = no-grant m sound none (configuration m).phase refl }

-- While a board has more to do, the run is not complete.
pub not-complete : (m : Machine) (board : ℕ) → test_of m board ≡ true → Complete m.setup (configuration m) → ⊥
not-complete m board some complete =
    let no : test_of m board ≡ false = ap is_some (complete.scripts board) in both_ways (test_of m board) no some

-- The number of lines of memory.
pub lines-are :
    (setup : Setup) (c : Configuration) (words : List ℕ) (lines : ℕ) → length c.memory ≡ line_count setup
    → lines_of_words words ≡ c.memory → length words ≡ 4 * lines → lines ≡ line_count setup
lines-are setup c words lines long shows four =
    let n : length (lines_of_words words) ≡ line_count setup = ap (λ (ls : List (List ℕ)). length ls) shows ∙ long in
    let m = length-lines words lines four in
    sym m ∙ n
  where
    length-lines : (words : List ℕ) (lines : ℕ) → length words ≡ 4 * lines → length (lines_of_words words) ≡ lines
    length-lines [] n e = omega (arith, e)
    length-lines (a ∷ []) n e = absurd (omega (arith, e))
    length-lines (a ∷ b ∷ []) n e = absurd (omega (arith, e))
    length-lines (a ∷ b ∷ d ∷ []) n e = absurd (omega (arith, e))
    length-lines (a ∷ b ∷ d ∷ f ∷ rest) zero e = absurd (omega (arith, e))
    length-lines (a ∷ b ∷ d ∷ f ∷ rest) (suc n) e = ap suc (length-lines rest n (omega (arith, e)))

-- The first board that has more to do.
pub first-unfinished :
    (m : Machine) (n : ℕ) → DoneBefore m n → n < length m.setup.boards → test_of m (n + 1) ≡ true
    → Some (n + 1) ≡ find (test_of m) (board_places m.setup)
first-unfinished m n before within here =
    let e : n + 1 ≡ 1 + n = omega arith in
    ap (λ (k : ℕ). Some k) e
    ∙ sym (find-first (test_of m) 1 n m.setup.boards before (ap (test_of m) (sym e) ∙ here) within)

pub none-unfinished :
    (m : Machine) (n : ℕ) → DoneBefore m n → length m.setup.boards ≤ n → None ≡ find (test_of m) (board_places m.setup)
none-unfinished m n before all = sym (find-no (test_of m) 1 m.setup.boards (λ j l. before j (omega arith)))

pub all-before :
    (m : Machine) (n : ℕ) → DoneBefore m n → length m.setup.boards ≤ n → DoneBefore m (length m.setup.boards)
all-before m n before all j l = before j (omega arith)

-- As many boards as the rack has.
pub rack-boards :
    (inside now : Machine) (p : Parts) → inside ≡ now → PartsShow inside.setup (configuration inside) p
    → length p.rack.specs ≡ length now.setup.boards
rack-boards inside now p same s =
    ap (λ (xs : List BoardSpec). length xs) s.boards ∙ ap (λ (m : Machine). length m.setup.boards) same
