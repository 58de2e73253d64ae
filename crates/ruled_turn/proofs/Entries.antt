-- Lists of entries that grow.
use Rattle.std.proofs.Common.{◌≡◌, ◌≢◌, ℕ, ◌+◌, ◌<◌, ◌≤◌, Bool, true, false, if◌then◌else◌, ◌==◌, List, [], ◌∷◌, ◌++◌, length, refl, sym, ap, ◌∙◌, subst, ⊎_elim, inl, inr, arith, append_assoc, append-nil, length-append, ne_eqb, eq-eqb}
use Rattle.std.proofs.lemmas.List.Elements.{All-push}
use Rattle.ruled_turn.specs.Entries.{of, GoesOn, Grows, Turns, IsBySeat, GoesOnBySeats}

module _ {E : Type 0} where
  pub same_list : (xs ys : List (ℕ × E)) → xs ≡ ys → GoesOn xs ys
  same_list xs ys e = record { more = []; is = sym e ∙ sym (append-nil xs) }

  pub goes_further : (n : ℕ) (xs ys zs : List (ℕ × E)) → GoesOn xs ys → Grows n ys zs → GoesOn xs zs
  goes_further n xs ys zs on grows = ⊎_elim (λ (e : zs ≡ ys). record { more = on.more; is = e ∙ on.is })
      (λ (t : (e : E) × (zs ≡ ys ++ (n, e) ∷ [])).
      record {
        more = on.more ++ (n, t.0) ∷ [];
        is = t.1 ∙ ap (λ l. l ++ (n, t.0) ∷ []) on.is ∙ append_assoc xs on.more ((n, t.0) ∷ []);
      }) grows

  of_append : (n : ℕ) (xs ys : List (ℕ × E)) → of n (xs ++ ys) ≡ of n xs ++ of n ys
  of_append n [] ys = refl
  of_append n (x ∷ xs) ys = go (x.0 == n) (of_append n xs ys)
    where
      go :
          (b : Bool) → of n (xs ++ ys) ≡ of n xs ++ of n ys
          → (if b then x ∷ of n (xs ++ ys) else of n (xs ++ ys)) ≡ (if b then x ∷ of n xs else of n xs) ++ of n ys
      go true h = ap (λ l. x ∷ l) h
      go false h = h

  -- An entry of another changes nothing of n's.
  pub of_other : (n m : ℕ) (xs ys : List (ℕ × E)) → n ≢ m → Grows m xs ys → of n ys ≡ of n xs
  of_other n m xs ys apart grows = ⊎_elim (λ (e : ys ≡ xs). ap (of n) e)
      (λ (t : (e : E) × (ys ≡ xs ++ (m, e) ∷ [])).
      ap (of n) t.1 ∙ of_append n xs ((m, t.0) ∷ [])
      ∙ ap (λ (b : Bool). of n xs ++ (if b then (m, t.0) ∷ [] else [])) (ne_eqb m n (λ e. apart (sym e)))
      ∙ append-nil (of n xs)) grows

  pub of_own : (n : ℕ) (e : E) (xs : List (ℕ × E)) → of n (xs ++ (n, e) ∷ []) ≡ of n xs ++ (n, e) ∷ []
  of_own n e xs =
      of_append n xs ((n, e) ∷ []) ∙ ap (λ (b : Bool). of n xs ++ (if b then (n, e) ∷ [] else [])) (eq-eqb n n refl)

  pub grown_length :
      (n : ℕ) (xs ys : List (ℕ × E)) → Grows n xs ys → (length xs ≤ length ys) × (length ys ≤ length xs + 1)
  grown_length n xs ys grows =
      ⊎_elim (λ (e : ys ≡ xs). let l = ap (λ (z : List (ℕ × E)). length z) e in (omega arith, omega arith))
      (λ (t : (e : E) × (ys ≡ xs ++ (n, e) ∷ [])).
      let l = ap (λ (z : List (ℕ × E)). length z) t.1 in
      let m = length-append xs ((n, t.0) ∷ []) in (omega arith, omega arith)) grows

  pub past_more :
      (many n : ℕ) (start xs ys : List (ℕ × E)) → 0 < n → n ≤ many → GoesOnBySeats many start xs → Grows n xs ys
      → GoesOnBySeats many start ys
  past_more many n start xs ys low high past grows = ⊎_elim (λ (e : ys ≡ xs). (past.0, e ∙ past.1, past.2))
      (λ (t : (e : E) × (ys ≡ xs ++ (n, e) ∷ [])). (
        past.0 ++ (n, t.0) ∷ [],
        t.1 ∙ ap (λ l. l ++ (n, t.0) ∷ []) past.1 ∙ append_assoc start past.0 ((n, t.0) ∷ []),
        All-push (IsBySeat many) past.0 (n, t.0) past.2 (low, high),
      )) grows

  -- The turn of n that makes one list of another.
  pub turned :
      (n : ℕ) (Replies : List (ℕ × E) → List (ℕ × E) → Type 0) (seen mine xs ys : List (ℕ × E)) → GoesOn seen xs
      → mine ≡ of n xs → Grows n xs ys → Replies xs ys → Turns n Replies seen mine ys (of n ys)
  turned n Replies seen mine xs ys on is grows replies =
      ⊎_elim (λ (e : ys ≡ xs).
      inr (
        record { more = on.more; is = e ∙ on.is },
        ap (of n) e ∙ sym is,
        subst (λ z. Replies z ys) (sym e) replies,
      ))
      (λ (t : (e : E) × (ys ≡ xs ++ (n, e) ∷ [])).
      inl (xs, t.0, on, t.1, ap (of n) t.1 ∙ of_own n t.0 xs ∙ ap (λ l. l ++ (n, t.0) ∷ []) (sym is), replies))
      grows
