-- Where lines of words and of accesses stop.
use Rattle.std.proofs.Common.{◌≡◌, ℕ, ◌<◌, ◌≤◌, ◌^◌, Bool, true, false, cond, ltb, List, [], ◌∷◌, ◌++◌, length, Some, Result, Ok, Err, refl, sym, ap, subst, ◌∙◌, arith}
use Rattle.std.specs.Prelude.{decimal}
use Rattle.std.proofs.lemmas.Bool.{ltb-false}
use Rattle.fb_text.specs.Places.{Words, Place}
use Rattle.table_text.specs.Reading.{◌>>=◌}
use Rattle.setup_text.specs.declared.fault.SetupKind.{SetupKind}
use Rattle.setup_text.specs.declared.fault.SetupKind.TheVariants.{UnknownWord, Number, Address}
use Rattle.setup_text.specs.Spelling.{SetupText}
use Rattle.setup_text.specs.Values.{setup_of}
use Rattle.setup_text.specs.Standing.{StandsSoFar}
use Rattle.setup_text.specs.Grammars.{Slot, other, address, value, slot_of, wants_number, JudgedAs, JudgedAddress, unfit_word}
use Rattle.setup_text.specs.Reading.{number_at, line_ends, in_memory, address_at, address_line, value_line}
use Rattle.setup_text.proofs.LineWords.{number_read, address_read, address_line_read, value_line_read}
use Rattle.setup_text.proofs.Follows.{Follows}
use Rattle.setup_text.proofs.LineFaults.{decimal_same, FreeHere, free_push, Begins, Faulty, unfit_at, judged_at, Refused, NumberTail, number_refused, refused_at}

abbrev bound_of : SetupText → ℕ
bound_of s = length (setup_of s).memory

abbrev word_by : Slot → SetupKind
word_by x = cond (wants_number x) Number UnknownWord

abbrev addressed_by : ℕ → Words → Result ℕ SetupKind → Result (ℕ × Words) SetupKind
addressed_by a us x = x >>= λ addr. Ok (addr, us)

abbrev in_memory_by : ℕ → Result (ℕ × Words) SetupKind → Result (ℕ × Words) SetupKind
in_memory_by bound x = x >>= λ n. addressed_by n.0 n.1 (in_memory bound n.0)

abbrev lined_by : Result (ℕ × Words) SetupKind → Result ℕ SetupKind
lined_by x = x >>= λ a. line_ends a.1 >>= λ _. Ok a.0

abbrev valued_by : Result (ℕ × Words) SetupKind → Result (ℕ × ℕ) SetupKind
valued_by x = x >>= λ a. number_at 4294967295 a.1 >>= λ v. line_ends v.1 >>= λ _. Ok (a.0, v.0)

abbrev value_by : ℕ → Result (ℕ × Words) SetupKind → Result (ℕ × ℕ) SetupKind
value_by a x = x >>= λ v. line_ends v.1 >>= λ _. Ok (a, v.0)

abbrev one_by : ℕ → Result (Unit {0}) SetupKind → Result ℕ SetupKind
one_by a x = x >>= λ _. Ok a

abbrev two_by : ℕ → ℕ → Result (Unit {0}) SetupKind → Result (ℕ × ℕ) SetupKind
two_by a b x = x >>= λ _. Ok (a, b)

module _ (s : SetupText) (h : StandsSoFar s) (rest : List Place) (line : ℕ) where
  -- words after a whole line
  over :
      (front us : Words) (k : SetupKind) → Begins s front → FreeHere s front
      → ((t : Words) (others : List Words) → Follows s (front ++ t) others → t ≡ []) → unfit_word front ≡ UnknownWord
      → line_ends us ≡ Err k → Faulty s line (front ++ us) rest k
  over front [] k begins free expects unknown e = absurd cc
  over front (w ∷ us) k begins free expects unknown e =
      let same : UnknownWord ≡ k = cc in
      unfit_at s line (front ++ w ∷ us) rest front (Some w) us k h refl begins free
      (λ more others f. (let none : w ∷ more ≡ [] = expects (w ∷ more) others f in cc)) (sym same ∙ sym unknown)

  module _ (v : List ℕ) (slot : slot_of (v ∷ []) ≡ address) (begins_v : Begins s (v ∷ []))
      (free_v : FreeHere s (v ∷ [])) (begins_addr : (x : ℕ) → x < 2 ^ 32 → Begins s (v ∷ decimal x ∷ [])) where
    wants : unfit_word (v ∷ []) ≡ Number
    wants = ap word_by slot

    free_addr : (a : ℕ) → a < 2 ^ 32 → a < bound_of s → FreeHere s (v ∷ decimal a ∷ [])
    free_addr a small low = free_push s (v ∷ []) (decimal a) free_v judged
      where
        judged : (k : SetupKind) → JudgedAs (slot_of (v ∷ [])) (setup_of s) (v ∷ []) (decimal a) k → ⊥
        judged k j = go (subst (λ (x : Slot). JudgedAs x (setup_of s) (v ∷ []) (decimal a) k) slot j)
          where
            go : JudgedAddress (setup_of s) (decimal a) k → ⊥
            go (b, low_b, is, many, _) =
                let same : a ≡ b = decimal_same a b (omega arith) (omega arith) is in omega arith

    address_stops :
        ((t : Words) (others : List Words) → Follows s (v ∷ t) others → NumberTail 0 4294967295 t)
        → (ws : Words) (k : SetupKind) → address_at (bound_of s) ws ≡ Err k → Faulty s line (v ∷ ws) rest k
    unfolding address_at
    address_stops expects ws k e = go (number_at 4294967295 ws) refl e
      where
        behind :
            (a : ℕ) (us : Words) → a ≤ 4294967295 → ws ≡ decimal a ∷ us → bound_of s ≤ a → Address ≡ k
            → Faulty s line (v ∷ ws) rest k
        behind a us high at many same =
            judged_at s line (v ∷ ws) rest (v ∷ []) (decimal a) us k h (ap (λ (x : Words). v ∷ x) at) begins_v
            (begins_addr a (omega arith)) free_v
            (subst (λ (x : Slot). JudgedAs x (setup_of s) (v ∷ []) (decimal a) k) (sym slot)
            (a, omega arith, refl, many, sym same))

        test :
            (a : ℕ) (us : Words) → a ≤ 4294967295 → ws ≡ decimal a ∷ us → (x : Bool) → ltb a (bound_of s) ≡ x
            → addressed_by a us (cond x (Ok a) (Err Address)) ≡ Err k → Faulty s line (v ∷ ws) rest k
        test a us high at true r e = absurd cc
        test a us high at false r e = behind a us high at (ltb-false a (bound_of s) r) cc

        go :
            (x : Result (ℕ × Words) SetupKind) → number_at 4294967295 ws ≡ x → in_memory_by (bound_of s) x ≡ Err k
            → Faulty s line (v ∷ ws) rest k
        go (Ok (a, us)) r e =
            let read = number_read 4294967295 ws (a, us) (omega arith) r in
            test a us read.1 read.0 (ltb a (bound_of s)) refl e
        go (Err j) r e =
            let same : j ≡ k = cc in
            refused_at s line (v ∷ ws) rest (v ∷ []) ws (NumberTail 0 4294967295) k Number h refl begins_v free_v
            (subst (λ (x : SetupKind). Refused (NumberTail 0 4294967295) ws x Number) same
            (number_refused 4294967295 ws j (omega arith) r)) expects wants wants

    module _ (next : (x : List ℕ) → slot_of (v ∷ x ∷ []) ≡ other)
        (expects : (t : Words) (others : List Words) → Follows s (v ∷ t) others
        → (x : ℕ) × (x < 2 ^ 32) × (t ≡ decimal x ∷ [])) where
      number_expected : (t : Words) (others : List Words) → Follows s (v ∷ t) others → NumberTail 0 4294967295 t
      number_expected t others f =
          let e = expects t others f in let low = e.1 in (e.0, [], e.2, omega arith, omega arith)

      -- A line of one address that was refused.
      pub one_stops :
          (ws : Words) (k : SetupKind) → address_line (bound_of s) ws ≡ Err k → Faulty s line (v ∷ ws) rest k
      unfolding address_line
      one_stops ws k e = go (address_at (bound_of s) ws) refl e
        where
          ends :
              (a : ℕ) (us : Words) → a < 2 ^ 32 → a < bound_of s → (x : Result (Unit {0}) SetupKind) → line_ends us ≡ x
              → one_by a x ≡ Err k → Faulty s line (v ∷ decimal a ∷ us) rest k
          ends a us small low (Ok y) r e = absurd cc
          ends a us small low (Err j) r e =
              let same : j ≡ k = cc in
              over (v ∷ decimal a ∷ []) us k (begins_addr a small) (free_addr a small low)
              (λ t others f.
              (let x = expects (decimal a ∷ t) others f in
              let both : decimal a ∷ t ≡ decimal x.0 ∷ [] = x.2 in cc)) (ap word_by (next (decimal a)))
              (r ∙ ap (λ (x : SetupKind). Err x) same)

          go :
              (x : Result (ℕ × Words) SetupKind) → address_at (bound_of s) ws ≡ x → lined_by x ≡ Err k
              → Faulty s line (v ∷ ws) rest k
          go (Ok (a, us)) r e =
              let read = address_read (bound_of s) ws (a, us) r in
              subst (λ (x : Words). Faulty s line (v ∷ x) rest k) (sym read.0)
              (ends a us read.2 read.1 (line_ends us) refl e)
          go (Err j) r e =
              let same : j ≡ k = cc in address_stops number_expected ws k (r ∙ ap (λ (x : SetupKind). Err x) same)

      pub one_passes : (ws : Words) (a : ℕ) → address_line (bound_of s) ws ≡ Ok a → FreeHere s (v ∷ ws)
      one_passes ws a e =
          let read = address_line_read (bound_of s) ws a e in
          subst (λ (x : Words). FreeHere s (v ∷ x)) (sym read.0) (free_addr a read.2 read.1)

    module _ (next : (x : List ℕ) → slot_of (v ∷ x ∷ []) ≡ value)
        (last : (x y : List ℕ) → slot_of (v ∷ x ∷ y ∷ []) ≡ other)
        (begins_value : (x y : ℕ) → x < 2 ^ 32 → y < 2 ^ 32 → Begins s (v ∷ decimal x ∷ decimal y ∷ []))
        (expects : (t : Words) (others : List Words) → Follows s (v ∷ t) others
        → (x : ℕ) × (y : ℕ) × (x < 2 ^ 32) × (y < 2 ^ 32) × (t ≡ decimal x ∷ decimal y ∷ [])) where
      first_expected : (t : Words) (others : List Words) → Follows s (v ∷ t) others → NumberTail 0 4294967295 t
      first_expected t others f =
          let e = expects t others f in let low = e.2 in (e.0, decimal e.1 ∷ [], e.4, omega arith, omega arith)

      second_expected :
          (a : ℕ) (t : Words) (others : List Words) → Follows s (v ∷ decimal a ∷ t) others → NumberTail 0 4294967295 t
      second_expected a t others f =
          let e = expects (decimal a ∷ t) others f in
          let low = e.3 in
          let both : decimal a ∷ t ≡ decimal e.0 ∷ decimal e.1 ∷ [] = e.4 in
          let is : t ≡ decimal e.1 ∷ [] = cc in
          (e.1, [], is, omega arith, omega arith)

      free_value : (a b : ℕ) → a < 2 ^ 32 → a < bound_of s → FreeHere s (v ∷ decimal a ∷ decimal b ∷ [])
      free_value a b small low =
          free_push s (v ∷ decimal a ∷ []) (decimal b) (free_addr a small low)
          (λ k j. subst (λ (x : Slot). JudgedAs x (setup_of s) (v ∷ decimal a ∷ []) (decimal b) k) (next (decimal a)) j)

      -- A line of an address and a value that was refused.
      pub two_stops : (ws : Words) (k : SetupKind) → value_line (bound_of s) ws ≡ Err k → Faulty s line (v ∷ ws) rest k
      unfolding value_line
      two_stops ws k e = go (address_at (bound_of s) ws) refl e
        where
          ends :
              (a b : ℕ) (us : Words) → a < 2 ^ 32 → a < bound_of s → b < 2 ^ 32 → (x : Result (Unit {0}) SetupKind)
              → line_ends us ≡ x → two_by a b x ≡ Err k → Faulty s line (v ∷ decimal a ∷ decimal b ∷ us) rest k
          ends a b us small low small_b (Ok y) r e = absurd cc
          ends a b us small low small_b (Err j) r e =
              let same : j ≡ k = cc in
              over (v ∷ decimal a ∷ decimal b ∷ []) us k (begins_value a b small small_b) (free_value a b small low)
              (λ t others f.
              (let x = expects (decimal a ∷ decimal b ∷ t) others f in
              let both : decimal a ∷ decimal b ∷ t ≡ decimal x.0 ∷ decimal x.1 ∷ [] = x.4 in cc))
              (ap word_by (last (decimal a) (decimal b))) (r ∙ ap (λ (x : SetupKind). Err x) same)

          second :
              (a : ℕ) (us : Words) → a < 2 ^ 32 → a < bound_of s → (x : Result (ℕ × Words) SetupKind)
              → number_at 4294967295 us ≡ x → value_by a x ≡ Err k → Faulty s line (v ∷ decimal a ∷ us) rest k
          second a us small low (Ok (b, vs)) r e =
              let read = number_read 4294967295 us (b, vs) (omega arith) r in
              let high = read.1 in
              subst (λ (x : Words). Faulty s line (v ∷ decimal a ∷ x) rest k) (sym read.0)
              (ends a b vs small low (omega arith) (line_ends vs) refl e)
          second a us small low (Err j) r e =
              let same : j ≡ k = cc in
              let kind : unfit_word (v ∷ decimal a ∷ []) ≡ Number = ap word_by (next (decimal a)) in
              refused_at s line (v ∷ decimal a ∷ us) rest (v ∷ decimal a ∷ []) us (NumberTail 0 4294967295) k Number h
              refl (begins_addr a small) (free_addr a small low)
              (subst (λ (x : SetupKind). Refused (NumberTail 0 4294967295) us x Number) same
              (number_refused 4294967295 us j (omega arith) r)) (λ t others f. second_expected a t others f)
              kind kind

          go :
              (x : Result (ℕ × Words) SetupKind) → address_at (bound_of s) ws ≡ x → valued_by x ≡ Err k
              → Faulty s line (v ∷ ws) rest k
          go (Ok (a, us)) r e =
              let read = address_read (bound_of s) ws (a, us) r in
              subst (λ (x : Words). Faulty s line (v ∷ x) rest k) (sym read.0)
              (second a us read.2 read.1 (number_at 4294967295 us) refl e)
          go (Err j) r e =
              let same : j ≡ k = cc in address_stops first_expected ws k (r ∙ ap (λ (x : SetupKind). Err x) same)

      pub two_passes : (ws : Words) (a : ℕ × ℕ) → value_line (bound_of s) ws ≡ Ok a → FreeHere s (v ∷ ws)
      two_passes ws a e =
          let read = value_line_read (bound_of s) ws a e in
          subst (λ (x : Words). FreeHere s (v ∷ x)) (sym read.0) (free_value a.0 a.1 read.2 read.1)
