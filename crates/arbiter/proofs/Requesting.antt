-- The competing numbers and the winner, searched for from the first board on.
use Rattle.std.proofs.Common.{◌≡◌, ◌≢◌, ℕ, zero, suc, ◌+◌, ◌<◌, ◌≤◌, Bool, true, false, ◌&&◌, cond, List, [], ◌∷◌, ◌++◌, Some, None, length, drop, take, refl, sym, ap, ◌∙◌, subst, arith, inl, inr, ◌⊎◌, append_assoc, append-nil}
use Rattle.std.specs.Prelude.{All, slice_index, slice_index_or, ◌==◌}
use Rattle.std.proofs.lemmas.Bool.{eqb-true, eq-eqb}
use Rattle.bus_model.specs.Settling.{highest}
use Rattle.arbiter.specs.Contests.{IsNumber, IsContest}
use Rattle.arbiter.specs.Raised.{marked_numbers, winner_from}
use Rattle.arbiter.proofs.Members.{In, highest-in}

drop_at :
    {X : Type 0} (xs : List X) (i : ℕ) (d : X) → i < length xs → drop i xs ≡ slice_index_or xs i d ∷ drop (i + 1) xs
drop_at [] i d h = absurd (omega arith)
drop_at (x ∷ xs) zero d h = refl
drop_at (x ∷ xs) (suc i) d h =
    let next : suc i + 1 ≡ suc (i + 1) = omega arith in rw next (drop_at xs i d (omega arith))

drop_end : {X : Type 0} (xs : List X) (i : ℕ) → length xs ≤ i → drop i xs ≡ []
drop_end [] zero h = refl
drop_end [] (suc i) h = refl
drop_end (x ∷ xs) zero h = absurd (omega arith)
drop_end (x ∷ xs) (suc i) h = drop_end xs i (omega arith)

raised_step :
    (numbers : List ℕ) (raised : List Bool) (i : ℕ) → i < length numbers → i < length raised
    → marked_numbers (drop i numbers) (drop i raised)
    ≡ cond (slice_index_or raised i false) (slice_index numbers i ∷ []) []
    ++ marked_numbers (drop (i + 1) numbers) (drop (i + 1) raised)
raised_step numbers raised i h k =
    rw (drop_at numbers i 0 h, drop_at raised i false k) (go (slice_index_or raised i false))
  where
    rest : List ℕ
    rest = marked_numbers (drop (i + 1) numbers) (drop (i + 1) raised)

    go : (b : Bool) → cond b (slice_index numbers i ∷ rest) rest ≡ cond b (slice_index numbers i ∷ []) [] ++ rest
    go true = refl
    go false = refl

-- What was gathered from the first boards, and what is left to gather from the others.
pub gathered_more :
    (numbers : List ℕ) (raised : List Bool) (i : ℕ) (before later : List ℕ) → i < length numbers → i < length raised
    → marked_numbers numbers raised ≡ before ++ marked_numbers (drop i numbers) (drop i raised)
    → later ≡ before ++ cond (slice_index_or raised i false) (slice_index numbers i ∷ []) []
    → marked_numbers numbers raised ≡ later ++ marked_numbers (drop (i + 1) numbers) (drop (i + 1) raised)
gathered_more numbers raised i before later h k e f =
    let one = cond (slice_index_or raised i false) (slice_index numbers i ∷ []) [] in
    let rest = marked_numbers (drop (i + 1) numbers) (drop (i + 1) raised) in
    e ∙ ap (λ x. before ++ x) (raised_step numbers raised i h k) ∙ sym (append_assoc before one rest)
    ∙ ap (λ x. x ++ rest) (sym f)

pub gathered_all :
    (numbers : List ℕ) (raised : List Bool) (i : ℕ) (before : List ℕ) → length numbers ≤ i
    → marked_numbers numbers raised ≡ before ++ marked_numbers (drop i numbers) (drop i raised)
    → before ≡ marked_numbers numbers raised
gathered_all numbers raised i before h e =
    let none : marked_numbers (drop i numbers) (drop i raised) ≡ [] =
    ap (λ ns. marked_numbers ns (drop i raised)) (drop_end numbers i h) in
    sym (e ∙ ap (λ x. before ++ x) none ∙ append-nil before)

-- The winner, searched for from this board on.
winner_step :
    (numbers : List ℕ) (raised : List Bool) (i number : ℕ) → i < length numbers → i < length raised
    → winner_from (i + 1) (drop i numbers) (drop i raised) number
    ≡ cond (slice_index_or raised i false && (slice_index numbers i == number)) (Some (i + 1))
    (winner_from (i + 1 + 1) (drop (i + 1) numbers) (drop (i + 1) raised) number)
winner_step numbers raised i number h k =
    let next : suc (i + 1) ≡ i + 1 + 1 = omega arith in
    rw (drop_at numbers i 0 h, drop_at raised i false k, sym next) refl

pub winner_found :
    (numbers : List ℕ) (raised : List Bool) (i number : ℕ) → i < length numbers → i < length raised
    → winner_from 1 numbers raised number ≡ winner_from (i + 1) (drop i numbers) (drop i raised) number
    → (slice_index_or raised i false && (slice_index numbers i == number)) ≡ true
    → winner_from 1 numbers raised number ≡ Some (i + 1)
winner_found numbers raised i number h k e found =
    e ∙ winner_step numbers raised i number h k
    ∙ ap (λ b. cond b (Some (i + 1)) (winner_from (i + 1 + 1) (drop (i + 1) numbers) (drop (i + 1) raised) number))
    found

pub winner_later :
    (numbers : List ℕ) (raised : List Bool) (i number : ℕ) → i < length numbers → i < length raised
    → winner_from 1 numbers raised number ≡ winner_from (i + 1) (drop i numbers) (drop i raised) number
    → (slice_index_or raised i false && (slice_index numbers i == number)) ≡ false
    → winner_from 1 numbers raised number ≡ winner_from (i + 1 + 1) (drop (i + 1) numbers) (drop (i + 1) raised) number
winner_later numbers raised i number h k e other =
    e ∙ winner_step numbers raised i number h k
    ∙ ap (λ b. cond b (Some (i + 1)) (winner_from (i + 1 + 1) (drop (i + 1) numbers) (drop (i + 1) raised) number))
    other

pub winner_none :
    (numbers : List ℕ) (raised : List Bool) (i number : ℕ) → length numbers ≤ i
    → winner_from 1 numbers raised number ≡ winner_from (i + 1) (drop i numbers) (drop i raised) number
    → winner_from 1 numbers raised number ≡ None
winner_none numbers raised i number h e =
    e ∙ ap (λ ns. winner_from (i + 1) ns (drop i raised) number) (drop_end numbers i h)

-- ---- the competing numbers

raised_within : (numbers : List ℕ) (raised : List Bool) → length (marked_numbers numbers raised) ≤ length numbers
raised_within [] raised = omega arith
raised_within (n ∷ numbers) [] = omega arith
raised_within (n ∷ numbers) (r ∷ raised) = go r (raised_within numbers raised)
  where
    go :
        (b : Bool) → length (marked_numbers numbers raised) ≤ length numbers
        → length (cond b (n ∷ marked_numbers numbers raised) (marked_numbers numbers raised)) ≤ length (n ∷ numbers)
    go true h = omega (arith, h)
    go false h = omega (arith, h)

raised_in : (numbers : List ℕ) (raised : List Bool) (x : ℕ) → In x (marked_numbers numbers raised) → In x numbers
raised_in [] raised x h = absurd h
raised_in (n ∷ numbers) [] x h = absurd h
raised_in (n ∷ numbers) (r ∷ raised) x h = go r h (raised_in numbers raised x)
  where
    go :
        (b : Bool) → In x (cond b (n ∷ marked_numbers numbers raised) (marked_numbers numbers raised))
        → (In x (marked_numbers numbers raised) → In x numbers) → (x ≡ n) ⊎ In x numbers
    go true (inl e) rest = inl e
    go true (inr there) rest = inr (rest there)
    go false there rest = inr (rest there)

all_to : (P : ℕ → Type 0) (xs : List ℕ) → All P xs → (x : ℕ) → In x xs → P x
all_to P [] each x there = absurd there
all_to P (y ∷ ys) each x (inl e) = subst P (sym e) (each 0 y (omega arith))
all_to P (y ∷ ys) each x (inr there) = all_to P ys (λ i d lt. each (suc i) d (omega arith)) x there

all_from : (P : ℕ → Type 0) (xs : List ℕ) → ((x : ℕ) → In x xs → P x) → All P xs
all_from P [] each i d lt = absurd (omega (arith, lt))
all_from P (y ∷ ys) each zero d lt = each y (inl refl)
all_from P (y ∷ ys) each (suc i) d lt = all_from P ys (λ x there. each x (inr there)) i d (omega (arith, lt))

-- The competing numbers are a contest, if there are any.
pub raised_contest :
    (numbers : List ℕ) (raised : List Bool) → IsContest numbers → 1 ≤ length (marked_numbers numbers raised)
    → IsContest (marked_numbers numbers raised)
raised_contest numbers raised contest some = record {
  some = some;
  most = let within = raised_within numbers raised in omega (arith, within, contest.most);
  each =
      all_from IsNumber (marked_numbers numbers raised)
      (λ x there. all_to IsNumber numbers contest.each x (raised_in numbers raised x there));
}

-- A number that competes is that of some winner.
winner_there :
    (place : ℕ) (numbers : List ℕ) (raised : List Bool) (number : ℕ) → In number (marked_numbers numbers raised)
    → winner_from place numbers raised number ≢ None
winner_there place [] raised number there = absurd there
winner_there place (n ∷ numbers) [] number there = absurd there
winner_there place (n ∷ numbers) (r ∷ raised) number there = go r there (winner_there (suc place) numbers raised number)
  where
    first :
        (b : Bool) → (number ≡ n → b ≡ true) → (number ≡ n) ⊎ In number (marked_numbers numbers raised)
        → (In number (marked_numbers numbers raised) → winner_from (suc place) numbers raised number ≢ None)
        → cond b (Some place) (winner_from (suc place) numbers raised number) ≢ None
    first true h there rest = λ e. cc
    first false h (inl e) rest = let t : false ≡ true = h e in cc
    first false h (inr later) rest = rest later

    go :
        (b : Bool) → In number (cond b (n ∷ marked_numbers numbers raised) (marked_numbers numbers raised))
        → (In number (marked_numbers numbers raised) → winner_from (suc place) numbers raised number ≢ None)
        → cond (b && (n == number)) (Some place) (winner_from (suc place) numbers raised number) ≢ None
    go true there rest = first (n == number) (λ e. eq-eqb n number (sym e)) there rest
    go false there rest = rest there

pub highest_wins :
    (numbers : List ℕ) (raised : List Bool) → 1 ≤ length (marked_numbers numbers raised)
    → winner_from 1 numbers raised (highest (marked_numbers numbers raised)) ≢ None
highest_wins numbers raised some =
    winner_there 1 numbers raised (highest (marked_numbers numbers raised))
    (highest-in (marked_numbers numbers raised) some)

-- What is known of a winner.
pub record Won (numbers : List ℕ) (raised : List Bool) (number index : ℕ) : Type 0 where
  pub competes : slice_index_or raised index false ≡ true
  pub has_number : slice_index numbers index ≡ number

won_from :
    (place : ℕ) (numbers : List ℕ) (raised : List Bool) (number index : ℕ)
    → winner_from place numbers raised number ≡ Some (place + index) → Won numbers raised number index
won_from place [] raised number index e = cc
won_from place (n ∷ numbers) [] number index e = cc
won_from place (n ∷ numbers) (r ∷ raised) number index e =
    go (r && (n == number)) refl e index refl (λ k. won_from (suc place) numbers raised number k)
  where
    two : (a b : Bool) → (a && b) ≡ true → (a ≡ true) × (b ≡ true)
    two true b h = (refl, h)
    two false b h = cc

    low : (place' : ℕ) (ns : List ℕ) (rs : List Bool) (w : ℕ) → winner_from place' ns rs number ≡ Some w → place' ≤ w
    low place' [] rs w e = cc
    low place' (m ∷ ns) [] w e = cc
    low place' (m ∷ ns) (s ∷ rs) w e = pick (s && (m == number)) e (low (suc place') ns rs w)
      where
        pick :
            (b : Bool) → cond b (Some place') (winner_from (suc place') ns rs number) ≡ Some w
            → (winner_from (suc place') ns rs number ≡ Some w → suc place' ≤ w) → place' ≤ w
        pick true e rest = let same : place' ≡ w = cc in omega (arith, same)
        pick false e rest = let h = rest e in omega (arith, h)

    go :
        (b : Bool) → (r && (n == number)) ≡ b
        → cond b (Some place) (winner_from (suc place) numbers raised number) ≡ Some (place + index) → (i : ℕ)
        → i ≡ index
        → ((k : ℕ) → winner_from (suc place) numbers raised number ≡ Some (suc place + k) → Won numbers raised number k)
        → Won (n ∷ numbers) (r ∷ raised) number index
    go true h e zero i rest =
        subst (λ (j : ℕ). Won (n ∷ numbers) (r ∷ raised) number j) i
        (record { competes = (two r (n == number) h).0; has_number = eqb-true n number (two r (n == number) h).1 })
    go true h e (suc k) i rest = let same : place ≡ place + index = cc in absurd (omega (arith, same, i))
    go false h e zero i rest =
        let above = low (suc place) numbers raised (place + index) e in absurd (omega (arith, above, i))
    go false h e (suc k) i rest =
        let moved : place + index ≡ suc place + k = omega (arith, i) in
        let won = rest k (e ∙ ap Some moved) in
        subst (λ (j : ℕ). Won (n ∷ numbers) (r ∷ raised) number j) i
        (record { competes = won.competes; has_number = won.has_number })

pub won :
    (numbers : List ℕ) (raised : List Bool) (number index : ℕ) → winner_from 1 numbers raised number ≡ Some (index + 1)
    → Won numbers raised number index
won numbers raised number index e =
    let moved : index + 1 ≡ 1 + index = omega arith in won_from 1 numbers raised number index (e ∙ ap Some moved)

-- If any number competes, the first that does has a winner.
pub some_compete :
    (numbers : List ℕ) (raised : List Bool) (count : ℕ) (gathered : List ℕ)
    → take count gathered ≡ marked_numbers numbers raised → length (take count gathered) ≡ count → (count ≡ 0 → ⊥)
    → 1 ≤ length (marked_numbers numbers raised)
some_compete numbers raised zero gathered e long some = absurd (some refl)
some_compete numbers raised (suc k) gathered e long some = let same = ap length e in omega (arith, same, long)
