-- Texts of boards by their places, and of numbers from 0.
use Rattle.std.proofs.Common.{◌≡◌, ℕ, zero, suc, ◌+◌, ◌<◌, ◌≤◌, List, [], ◌∷◌, ◌++◌, length, get_or, take, drop, refl, sym, ap, ◌∙◌, arith, add-one, append_assoc, append-nil, inl, inr, ◌⊎◌}
use Rattle.std.specs.List.{flat_map}
use Rattle.std.proofs.lemmas.Bool.{cases_lt}
use Rattle.std.proofs.lemmas.List.{take_more, take_all}
use Rattle.std.proofs.lemmas.List.Concat.{flat_map-append, flat_map-cons}
use Rattle.bus_model.specs.Places.{places_from}
use Rattle.run_text.specs.Lines.{numbers_below}
use Rattle.run_text.proofs.Behind.{flat_map-at}

module _ {X : Type 0} where
  place-at : (k n d : ℕ) (xs : List X) → n < length xs → k + n ≡ get_or (places_from k xs) n d
  place-at k n d [] less = absurd (omega (arith, less))
  place-at k zero d (x ∷ xs) less = omega arith
  place-at k (suc n) d (x ∷ xs) less =
      let e : k + suc n ≡ suc k + n = omega arith in e ∙ place-at (suc k) n d xs (omega (arith, less))

  length-places : (k : ℕ) (xs : List X) → length (places_from k xs) ≡ length xs
  length-places k [] = refl
  length-places k (x ∷ xs) = ap suc (length-places (suc k) xs)

  -- The text of the boards before one, and of that board.
  pub places-more :
      (f : ℕ → List ℕ) (xs : List X) (i : ℕ) → i < length xs
      → flat_map f (take (i + 1) (places_from 1 xs)) ≡ flat_map f (take i (places_from 1 xs)) ++ f (i + 1)
  places-more f xs i less =
      let places = places_from 1 xs in
      let within : i < length places = omega (arith, less, length-places 1 xs) in
      let here : get_or places i 0 ≡ i + 1 = sym (place-at 1 i 0 xs less) ∙ omega arith in
      ap (flat_map f) (take_more places i 0 within)
      ∙ flat_map-append f (take i places) (get_or places i 0 ∷ [])
      ∙ ap (λ (t : List ℕ). flat_map f (take i places) ++ t)
      (flat_map-cons f (get_or places i 0) [] ∙ append-nil (f (get_or places i 0)) ∙ ap f here)

  -- The text of all boards: that of the boards before one, that of the board, and that of the others.
  pub places-at :
      (f : ℕ → List ℕ) (xs : List X) (i : ℕ) → i < length xs
      → flat_map f (places_from 1 xs)
      ≡ flat_map f (take i (places_from 1 xs)) ++ (f (i + 1) ++ flat_map f (drop (suc i) (places_from 1 xs)))
  places-at f xs i less =
      let e : i + 1 ≡ 1 + i = omega arith in
      flat_map-at f (places_from 1 xs) i (i + 1) (omega (arith, less, length-places 1 xs))
      (e ∙ place-at 1 i (i + 1) xs less)

  pub places-all :
      (f : ℕ → List ℕ) (xs : List X) (i : ℕ) → length xs ≤ i
      → flat_map f (take i (places_from 1 xs)) ≡ flat_map f (places_from 1 xs)
  places-all f xs i more = ap (flat_map f) (take_all i (places_from 1 xs) (omega (arith, more, length-places 1 xs)))

pub numbers-more : (f : ℕ → List ℕ) (i : ℕ) → flat_map f (numbers_below (i + 1)) ≡ flat_map f (numbers_below i) ++ f i
numbers-more f i =
    ap (λ (n : ℕ). flat_map f (numbers_below n)) (add-one i)
    ∙ flat_map-append f (numbers_below i) (i ∷ [])
    ∙ ap (λ (t : List ℕ). flat_map f (numbers_below i) ++ t) (flat_map-cons f i [] ∙ append-nil (f i))

-- The text of all numbers below one: that of the numbers below another, that of this one, and that of the others.
pub numbers-at :
    (f : ℕ → List ℕ) (n i : ℕ) → i < n
    → (rest : List ℕ) × (flat_map f (numbers_below n) ≡ flat_map f (numbers_below i) ++ (f i ++ rest))
numbers-at f zero i less = absurd (omega (arith, less))
numbers-at f (suc n) i less = go (cases_lt i n) (numbers-at f n i)
  where
    whole : flat_map f (numbers_below n ++ n ∷ []) ≡ flat_map f (numbers_below n) ++ f n
    whole =
        flat_map-append f (numbers_below n) (n ∷ [])
        ∙ ap (λ (t : List ℕ). flat_map f (numbers_below n) ++ t) (flat_map-cons f n [] ∙ append-nil (f n))

    go :
        (i < n) ⊎ (n ≤ i)
        → (i < n → (rest : List ℕ) × (flat_map f (numbers_below n) ≡ flat_map f (numbers_below i) ++ (f i ++ rest)))
        → (rest : List ℕ) × (flat_map f (numbers_below n ++ n ∷ []) ≡ flat_map f (numbers_below i) ++ (f i ++ rest))
    go (inl h) before =
        let r = before h in (
          r.0 ++ f n,
          whole ∙ ap (λ (t : List ℕ). t ++ f n) r.1 ∙ append_assoc (flat_map f (numbers_below i)) (f i ++ r.0) (f n)
              ∙ ap (λ (t : List ℕ). flat_map f (numbers_below i) ++ t) (append_assoc (f i) r.0 (f n)),
        )
    go (inr h) before =
        let same : n ≡ i = omega (arith, h, less) in (
          [],
          whole ∙ ap (λ (m : ℕ). flat_map f (numbers_below m) ++ f m) same
              ∙ ap (λ (t : List ℕ). flat_map f (numbers_below i) ++ t) (sym (append-nil (f i))),
        )
