-- What is written word after word.
use Rattle.std.proofs.Common.{◌≡◌, ℕ, zero, suc, ◌+◌, ◌<◌, ◌≤◌, Bool, true, false, List, [], ◌∷◌, ◌++◌, length, map, drop, get_or, refl, sym, ap, ◌∙◌, subst, append_assoc, drop-cons, add-one, arith}
use Rattle.std.specs.Prelude.{decimal, codes}
use Rattle.std.specs.List.{AllByRecursion, join_with_byte}
use Rattle.fb_text.specs.Places.{Words}
use Rattle.moesi_state.specs.declared.State.{State}
use Rattle.journal.specs.declared.event.Event.{Event}
use Rattle.trace_text.specs.Ranges.{IsBoard, AreStates}
use Rattle.trace_text.specs.Spelling.{taker_parts, takers_text, event_words, text_of_event, line_of_event}
use Rattle.trace_text.specs.Writing.{each_behind, spaced, led}

pub at_place :
    {A : Type 0} (xs : List A) (i : ℕ) (x d : A) → i < length xs → x ≡ get_or xs i d → drop i xs ≡ x ∷ drop (i + 1) xs
at_place {A} xs i x d lt e =
    drop-cons xs i d lt ∙ ((λ k. sym e k ∷ drop (suc i) xs) ∙ ap (λ (n : ℕ). x ∷ drop n xs) (sym (add-one i)))

pub each_at :
    {A : Type 0} (P : A → Type 0) (xs : List A) (i : ℕ) (x d : A) → i < length xs → x ≡ get_or xs i d
    → AllByRecursion P (drop i xs) → P x × AllByRecursion P (drop (i + 1) xs)
each_at P xs i x d lt e all = subst (AllByRecursion P) (at_place xs i x d lt e) all

pub drop_end : {A : Type 0} (xs : List A) (i : ℕ) → length xs ≤ i → drop i xs ≡ []
drop_end [] zero le = refl
drop_end [] (suc i) le = refl
drop_end (x ∷ xs) zero le = absurd (omega arith)
drop_end (x ∷ xs) (suc i) le = drop_end xs i (omega arith)

-- One more word is written.
pub one_more :
    {A : Type 0} (f : A → List ℕ) (bytes : List ℕ) (xs : List A) (i : ℕ) (x d : A) → i < length xs → x ≡ get_or xs i d
    → (bytes ++ 32 ∷ f x) ++ each_behind 32 (map f (drop (i + 1) xs)) ≡ bytes ++ each_behind 32 (map f (drop i xs))
one_more {A} f bytes xs i x d lt e =
    append_assoc bytes (32 ∷ f x) (each_behind 32 (map f (drop (i + 1) xs)))
    ∙ ap (λ (z : List A). bytes ++ each_behind 32 (map f z)) (sym (at_place xs i x d lt e))

-- One more board is written.
pub one_led :
    (lead : ℕ) (bytes bs : List ℕ) (i b d : ℕ) → i < length bs → b ≡ get_or bs i d
    → (bytes ++ lead ∷ decimal b) ++ led 44 (drop (i + 1) bs) ≡ bytes ++ led lead (drop i bs)
one_led lead bytes bs i b d lt e =
    append_assoc bytes (lead ∷ decimal b) (led 44 (drop (i + 1) bs))
    ∙ ap (λ (z : List ℕ). bytes ++ led lead z) (sym (at_place bs i b d lt e))

pub joined : (byte : ℕ) (w : List ℕ) (ws : Words) → join_with_byte byte (w ∷ ws) ≡ w ++ each_behind byte ws
joined byte w [] = sym (Rattle.std.proofs.Common.append-nil w)
joined byte w (v ∷ ws) = ap (λ (z : List ℕ). w ++ byte ∷ z) (joined byte v ws)

pub joined_spaced : (ws : Words) → join_with_byte 32 ws ≡ spaced ws
joined_spaced [] = refl
joined_spaced (w ∷ ws) = joined 32 w ws

pub behind_append :
    (byte : ℕ) (xs ys : Words) → each_behind byte (xs ++ ys) ≡ each_behind byte xs ++ each_behind byte ys
behind_append byte [] ys = refl
behind_append byte (x ∷ xs) ys =
    ap (λ (z : List ℕ). byte ∷ (x ++ z)) (behind_append byte xs ys)
    ∙ ap (λ (z : List ℕ). byte ∷ z) (sym (append_assoc x (each_behind byte xs) (each_behind byte ys)))

pub led_behind : (bs : List ℕ) → led 44 bs ≡ each_behind 44 (map decimal bs)
led_behind [] = refl
led_behind (b ∷ bs) = ap (λ (z : List ℕ). 44 ∷ (decimal b ++ z)) (led_behind bs)

pub all_mapped :
    {A B : Type 0} (f : A → B) (P : B → Type 0) (xs : List A) → AllByRecursion P (map f xs)
    → AllByRecursion (λ x. P (f x)) xs
all_mapped f P [] h = tt
all_mapped f P (x ∷ xs) h = (h.0, all_mapped f P xs h.1)

-- ---- takers

pub memory_written :
    (old middle new : List ℕ) (memory : Bool) (bs qs : List ℕ) → memory ≡ true → qs ≡ bs
    → middle ≡ old ++ codes " memory" → new ≡ middle ++ led 44 qs
    → new ≡ old ++ 32 ∷ takers_text (taker_parts memory bs)
memory_written old middle new true bs qs h same m n =
    n
    ∙ ((λ i. m i ++ led 44 (same i))
    ∙ (append_assoc old (codes " memory") (led 44 bs)
    ∙ ap (λ (z : List ℕ). old ++ 32 ∷ z)
    (ap (λ (z : List ℕ). codes "memory" ++ z) (led_behind bs)
    ∙ sym (joined 44 (codes "memory") (map decimal bs)))))
memory_written old middle new false bs qs h same m n = absurd cc

pub boards_written :
    (old new : List ℕ) (memory : Bool) (bs qs : List ℕ) → memory ≡ false → qs ≡ bs → 0 < length qs
    → new ≡ old ++ led 32 qs → new ≡ old ++ 32 ∷ takers_text (taker_parts memory bs)
boards_written old new true bs qs h same some n = absurd cc
boards_written old new false bs qs h same some n =
    n ∙ (ap (λ (z : List ℕ). old ++ led 32 z) same ∙ go bs (subst (λ (z : List ℕ). 0 < length z) same some))
  where
    go : (bs : List ℕ) → 0 < length bs → old ++ led 32 bs ≡ old ++ 32 ∷ takers_text (map decimal bs)
    go [] some = absurd (omega arith)
    go (b ∷ bs) some =
        ap (λ (z : List ℕ). old ++ 32 ∷ z)
        (ap (λ (z : List ℕ). decimal b ++ z) (led_behind bs) ∙ sym (joined 44 (decimal b) (map decimal bs)))

-- ---- the end of a data line

pub ended_written :
    (old a b c d : List ℕ) (xs ys : Words) → a ≡ old ++ 32 ∷ codes "states" → b ≡ a ++ each_behind 32 xs
    → c ≡ b ++ 32 ∷ codes "done" → d ≡ c ++ each_behind 32 ys
    → d ≡ old ++ each_behind 32 (codes "states" ∷ (xs ++ codes "done" ∷ ys))
ended_written old a b c d xs ys h₁ h₂ h₃ h₄ =
    let parts : each_behind 32 (xs ++ codes "done" ∷ ys) ≡ each_behind 32 xs ++ each_behind 32 (codes "done" ∷ ys) =
    behind_append 32 xs (codes "done" ∷ ys) in
    let flat : (((old ++ 32 ∷ codes "states") ++ each_behind 32 xs) ++ 32 ∷ codes "done") ++ each_behind 32 ys
    ≡ old ++ (32 ∷ codes "states" ++ (each_behind 32 xs ++ each_behind 32 (codes "done" ∷ ys))) =
    simp append_assoc in
    h₄
    ∙ (ap (λ (z : List ℕ). z ++ each_behind 32 ys)
    (h₃
    ∙ ap (λ (z : List ℕ). z ++ 32 ∷ codes "done")
    (h₂ ∙ ap (λ (z : List ℕ). z ++ each_behind 32 xs) h₁))
    ∙ (flat ∙ ap (λ (z : List ℕ). old ++ (32 ∷ codes "states" ++ z)) (sym parts)))

pub states_boards :
    (master : ℕ) (ss : List (ℕ × State)) → IsBoard master → AreStates master ss
    → AllByRecursion (λ (p : ℕ × State). IsBoard p.0) ss
states_boards master [] b h = absurd h
states_boards master (s ∷ others) b h =
    (subst IsBoard (sym h.0) b, all_mapped (λ (s : ℕ × State). s.0) IsBoard others h.2.each)

-- ---- a whole line

pub text_spaced : (e : Event) → text_of_event e ≡ spaced (event_words e)
unfolding text_of_event
text_spaced e = joined_spaced (event_words e)

pub line_written :
    (old middle new : List ℕ) (e : Event) → middle ≡ old ++ spaced (event_words e) → new ≡ middle ++ 10 ∷ []
    → new ≡ old ++ line_of_event e
line_written old middle new e m n =
    n
    ∙ (ap (λ (z : List ℕ). z ++ 10 ∷ []) m
    ∙ (append_assoc old (spaced (event_words e)) (10 ∷ [])
    ∙ ap (λ (z : List ℕ). old ++ (z ++ 10 ∷ [])) (sym (text_spaced e))))
