-- Sets of states as lists.
use Rattle.std.proofs.Common.{◌≡◌, Bool, true, false, cond, ◌&&◌, ◌||◌, List, [], ◌∷◌, filter, refl, sym, ap, ◌∙◌, subst, arith}
use Rattle.std.specs.Prelude.{Contains}
use Rattle.std.specs.List.{list_all}
use Rattle.std.proofs.lemmas.List.Elements.{filter_agree}
use Rattle.moesi_state.specs.declared.State.{State}
use Rattle.moesi_state.specs.declared.State.TheVariants.{M, O, E, S, I}
use Rattle.moesi_state.specs.States.{same_state, all_states}
use Rattle.class_relation.proofs.Spelling.{both_true, same_state-eq}
use Rattle.table_check.specs.Marks.{mark_of}
use Rattle.table_check.proofs.Reaching.{same_state-refl, any_state}
use Rattle.table_library.specs.StateSets.{is_in, state_sets}
use Rattle.table_library.proofs.Passing.{filter_of_filter}

-- What is in a filtered list is in the list, and passes.
pub in_filter :
    (p : State → Bool) (xs : List State) (s : State) → is_in (filter p xs) s ≡ (is_in xs s && p s)
in_filter p [] s = refl
in_filter p (x ∷ xs) s = go (p x) refl (same_state x s) refl (in_filter p xs s)
  where
    and_false : (b c : Bool) → c ≡ false → (b && c) ≡ c
    and_false true c h = refl
    and_false false c h = sym h

    go :
        (b : Bool) → p x ≡ b → (c : Bool) → same_state x s ≡ c → is_in (filter p xs) s ≡ (is_in xs s && p s)
        → is_in (cond b (x ∷ filter p xs) (filter p xs)) s ≡ ((c || is_in xs s) && p s)
    go true e true f rest =
        let passes : p s ≡ true = subst (λ (y : State). p y ≡ true) (same_state-eq x s f) e in
        rw (f, passes) refl
    go true e false f rest = rw f rest
    go false e true f rest =
        let fails : p s ≡ false = subst (λ (y : State). p y ≡ false) (same_state-eq x s f) e in
        rest ∙ and_false (is_in xs s) (p s) fails
    go false e false f rest = rest

-- Of all states, those that pass are in a filtered list.
pub in_filtered : (p : State → Bool) (s : State) → is_in (filter p all_states) s ≡ p s
in_filtered p s = in_filter p all_states s ∙ ap (λ b. b && p s) (any_state s)

-- The states that pass a test keep their order.
pub in_order : (p : State → Bool) → filter p all_states ≡ filter (is_in (filter p all_states)) all_states
in_order p = filter_agree p (is_in (filter p all_states)) (λ s. sym (in_filtered p s)) all_states

pub all_in_order : all_states ≡ filter (is_in all_states) all_states
all_in_order = refl

-- A part of a set that is in order is in order.
pub part_in_order :
    (q : State → Bool) (set : List State) → set ≡ filter (is_in set) all_states
    → filter q set ≡ filter (is_in (filter q set)) all_states
part_in_order q set ordered =
    let part : filter q set ≡ filter (λ s. is_in set s && q s) all_states =
    ap (filter q) ordered ∙ filter_of_filter (is_in set) q all_states in
    part
    ∙ filter_agree (λ s. is_in set s && q s) (is_in (filter q set)) (λ s. sym (in_filter q set s)) all_states

-- A test that all of a list passes, each state in it passes.
pub all_in :
    (p : State → Bool) (xs : List State) (s : State) → list_all p xs ≡ true → is_in xs s ≡ true → p s ≡ true
all_in p [] s all here = cc
all_in p (x ∷ xs) s all here =
    let parts = both_true (p x) (list_all p xs) all in
    go (same_state x s) refl here parts.0 (all_in p xs s parts.1)
  where
    go :
        (b : Bool) → same_state x s ≡ b → (b || is_in xs s) ≡ true → p x ≡ true
        → (is_in xs s ≡ true → p s ≡ true) → p s ≡ true
    go true e here first rest = subst (λ (y : State). p y ≡ true) (same_state-eq x s e) first
    go false e here first rest = rest here

-- The converse.
pub all_from :
    (p : State → Bool) (xs : List State) → ((s : State) → is_in xs s ≡ true → p s ≡ true) → list_all p xs ≡ true
all_from p [] f = refl
all_from p (x ∷ xs) f =
    let first : p x ≡ true = f x (rw (same_state-refl x) refl) in
    rw first (all_from p xs (λ s here. f s (later (same_state x s) (is_in xs s) here)))
  where
    later : (a b : Bool) → b ≡ true → (a || b) ≡ true
    later true b h = refl
    later false b h = h

-- ---- the state sets

-- The states that these four choose, and I.
abbrev picked : Bool → Bool → Bool → Bool → State → Bool
picked m o e s M = m
picked m o e s O = o
picked m o e s E = e
picked m o e s S = s
picked m o e s I = true

picked_listed : (m o e s : Bool) → Contains state_sets (filter (picked m o e s) all_states)
picked_listed true true true true = (0, omega arith, refl)
picked_listed true true true false = (1, omega arith, refl)
picked_listed true true false true = (2, omega arith, refl)
picked_listed true true false false = (3, omega arith, refl)
picked_listed true false true true = (4, omega arith, refl)
picked_listed true false true false = (5, omega arith, refl)
picked_listed true false false true = (6, omega arith, refl)
picked_listed true false false false = (7, omega arith, refl)
picked_listed false true true true = (8, omega arith, refl)
picked_listed false true true false = (9, omega arith, refl)
picked_listed false true false true = (10, omega arith, refl)
picked_listed false true false false = (11, omega arith, refl)
picked_listed false false true true = (12, omega arith, refl)
picked_listed false false true false = (13, omega arith, refl)
picked_listed false false false true = (14, omega arith, refl)
picked_listed false false false false = (15, omega arith, refl)

-- A set in order that has I is a state set.
pub is_state_set :
    (set : List State) → set ≡ filter (is_in set) all_states → is_in set I ≡ true → Contains state_sets set
is_state_set set ordered has =
    let test : State → Bool = picked (is_in set M) (is_in set O) (is_in set E) (is_in set S) in
    let same : filter test all_states ≡ set =
    filter_agree test (is_in set) (agree (is_in set) has) all_states ∙ sym ordered in
    subst (Contains state_sets) same (picked_listed (is_in set M) (is_in set O) (is_in set E) (is_in set S))
  where
    agree : (f : State → Bool) → f I ≡ true → (s : State) → picked (f M) (f O) (f E) (f S) s ≡ f s
    agree f h M = refl
    agree f h O = refl
    agree f h E = refl
    agree f h S = refl
    agree f h I = sym h

-- Each state set has I.
pub sets_have_invalid : list_all (λ set. is_in set I) state_sets ≡ true
sets_have_invalid = refl

-- ---- marks

-- The marks of the states of a set that pass are those of the set's part.
pub marks_of_part :
    (q : State → Bool) (set : List State) (m o e s i : Bool) → set ≡ filter (is_in set) all_states
    → m ≡ (is_in set M && q M) → o ≡ (is_in set O && q O) → e ≡ (is_in set E && q E) → s ≡ (is_in set S && q S)
    → i ≡ (is_in set I && q I)
    → filter (mark_of (m ∷ o ∷ e ∷ s ∷ i ∷ [])) all_states ≡ filter q set
marks_of_part q set m o e s i ordered hm ho he hs hi =
    filter_agree (mark_of (m ∷ o ∷ e ∷ s ∷ i ∷ [])) (λ x. is_in set x && q x) agree all_states
    ∙ sym (filter_of_filter (is_in set) q all_states)
    ∙ ap (filter q) (sym ordered)
  where
    agree : (x : State) → mark_of (m ∷ o ∷ e ∷ s ∷ i ∷ []) x ≡ (is_in set x && q x)
    agree M = hm
    agree O = ho
    agree E = he
    agree S = hs
    agree I = hi
