-- The states that are left are the kept ones, where some state set is good.
use Rattle.std.proofs.Common.{◌≡◌, ℕ, zero, suc, ◌+◌, ◌≤◌, ◌⊎◌, inl, inr, Bool, true, ◌&&◌, List, [], ◌∷◌, length, get_or, filter, refl, sym, ap, ◌∙◌, subst, arith}
use Rattle.std.specs.Prelude.{Contains}
use Rattle.std.specs.List.{list_all, list_any}
use Rattle.std.proofs.lemmas.List.Elements.{filter_agree, Contains-get_or}
use Rattle.moesi_state.specs.declared.State.{State}
use Rattle.moesi_state.specs.declared.State.TheVariants.{I}
use Rattle.moesi_state.specs.States.{all_states}
use Rattle.class_relation.specs.Tables.{Table}
use Rattle.class_relation.proofs.Spelling.{both_true}
use Rattle.table_check.proofs.Reaching.{any_state}
use Rattle.table_library.specs.StateSets.{is_in, state_sets}
use Rattle.table_library.specs.Fitting.{is_served, is_good, Good}
use Rattle.table_library.specs.Kept.{has_good_set, is_kept, kept, served_states, left_after}
use Rattle.table_library.specs.Greatest.{KeptIsGood, KeptIsGreatest}
use Rattle.table_library.proofs.Passing.{both, both_ways, any_contained, any_of_all, all_every, filter_all, filter_keeps_or_shortens, no_length}
use Rattle.table_library.proofs.Sets.{in_filter, in_filtered, part_in_order, all_in_order, all_in, is_state_set, sets_have_invalid}
use Rattle.table_library.proofs.Serving.{served_more, good_from_test, test_from_good}

-- ---- a good set stays in all rounds

pub left_first : (table : Table) → left_after table 0 ≡ all_states
unfolding left_after
left_first table = refl

pub left_next :
    (table : Table) (k : ℕ) → left_after table (suc k) ≡ served_states table (left_after table k)
unfolding left_after
left_next table k = refl

pub left_more :
    (table : Table) (k : ℕ) → served_states table (left_after table k) ≡ left_after table (k + 1)
left_more table k =
    let next : suc k ≡ k + 1 = omega arith in
    subst (λ (n : ℕ). served_states table (left_after table k) ≡ left_after table n) next (sym (left_next table k))

left_holds :
    (table : Table) (set : List State) → is_good table set ≡ true → (k : ℕ) (s : State) → is_in set s ≡ true
    → is_in (left_after table k) s ≡ true
left_holds table set good zero s here = ap (λ xs. is_in xs s) (left_first table) ∙ any_state s
left_holds table set good (suc k) s here =
    let before = left_holds table set good k in
    let served : is_served table (left_after table k) s ≡ true =
    served_more set (left_after table k) before table s (all_in (is_served table set) set s good here) in
    ap (λ xs. is_in xs s) (left_next table k)
    ∙ in_filter (is_served table (left_after table k)) (left_after table k) s
    ∙ both (is_in (left_after table k) s) (is_served table (left_after table k) s) (before s here) served

-- ---- the rounds come to an end

left_settles :
    (table : Table) (k : ℕ)
    → (left_after table (suc k) ≡ left_after table k) ⊎ (length (left_after table k) + k ≤ length all_states)
left_settles table zero =
    let first : length (left_after table 0) ≡ length all_states = ap length (left_first table) in
    inr (omega (arith, first))
left_settles table (suc k) =
    go (left_settles table k)
    (filter_keeps_or_shortens (is_served table (left_after table k)) (left_after table k))
  where
    stays :
        left_after table (suc k) ≡ left_after table k → left_after table (suc (suc k)) ≡ left_after table (suc k)
    stays same =
        left_next table (suc k) ∙ ap (served_states table) same ∙ sym (left_next table k)

    go :
        (left_after table (suc k) ≡ left_after table k) ⊎ (length (left_after table k) + k ≤ length all_states)
        → (served_states table (left_after table k) ≡ left_after table k)
        ⊎ (length (served_states table (left_after table k)) + 1 ≤ length (left_after table k))
        → (left_after table (suc (suc k)) ≡ left_after table (suc k))
        ⊎ (length (left_after table (suc k)) + suc k ≤ length all_states)
    go (inl same) next = inl (stays same)
    go (inr few) (inl same) = inl (stays (left_next table k ∙ same))
    go (inr few) (inr less) =
        let after : length (left_after table (suc k)) ≡ length (served_states table (left_after table k)) =
        ap length (left_next table k) in
        inr (omega (arith, few, less, after))

-- The states that are left in the end.
abbrev pub left : Table → List State
left table = left_after table (length all_states)

left_stands : (table : Table) → served_states table (left table) ≡ left table
left_stands table = go (left_settles table (length all_states))
  where
    nothing : (xs : List State) → xs ≡ [] → filter (is_served table xs) xs ≡ xs
    nothing [] e = refl
    nothing (x ∷ xs) e = cc

    go :
        (left_after table (suc (length all_states)) ≡ left table)
        ⊎ (length (left table) + length all_states ≤ length all_states)
        → served_states table (left table) ≡ left table
    go (inl same) = sym (left_next table (length all_states)) ∙ same
    go (inr few) = nothing (left table) (no_length (left table) (omega (arith, few)))

left_good : (table : Table) → is_good table (left table) ≡ true
left_good table =
    ap (list_all (is_served table (left table))) (sym (left_stands table))
    ∙ filter_all (is_served table (left table)) (left table)

left_in_order : (table : Table) (k : ℕ) → left_after table k ≡ filter (is_in (left_after table k)) all_states
left_in_order table zero =
    subst (λ (xs : List State). xs ≡ filter (is_in xs) all_states) (sym (left_first table)) all_in_order
left_in_order table (suc k) =
    subst (λ (xs : List State). xs ≡ filter (is_in xs) all_states) (sym (left_next table k))
    (part_in_order (is_served table (left_after table k)) (left_after table k) (left_in_order table k))

left_is_set : (table : Table) → is_in (left table) I ≡ true → Contains state_sets (left table)
left_is_set table here = is_state_set (left table) (left_in_order table (length all_states)) here

-- ---- what is left is what is kept

pub good_set_is_told : (table : Table) → has_good_set table ≡ is_in (left table) I
unfolding has_good_set
good_set_is_told table =
    both_ways (list_any (is_good table) state_sets) (is_in (left table) I) there back
  where
    there : list_any (is_good table) state_sets ≡ true → is_in (left table) I ≡ true
    there h =
        let found = any_of_all (is_good table) (λ set. is_in set I) state_sets h sets_have_invalid in
        left_holds table found.0 found.1 (length all_states) I found.2

    back : is_in (left table) I ≡ true → list_any (is_good table) state_sets ≡ true
    back here =
        any_contained (is_good table) state_sets (left table) (left_is_set table here) (left_good table)

-- A set is good for a table, and has a state.
abbrev good_with : Table → State → List State → Bool
good_with table s set = is_good table set && is_in set s

kept_is_left : (table : Table) → is_in (left table) I ≡ true → (s : State) → is_kept table s ≡ is_in (left table) s
unfolding is_kept
kept_is_left table first s =
    both_ways (list_any (good_with table s) state_sets) (is_in (left table) s) there back
  where
    there : list_any (good_with table s) state_sets ≡ true → is_in (left table) s ≡ true
    there h =
        let found = any_of_all (good_with table s) (λ set. true) state_sets h
        (all_every (λ set. true) state_sets (λ set. refl)) in
        let parts = both_true (is_good table found.0) (is_in found.0 s) found.1 in
        left_holds table found.0 parts.0 (length all_states) s parts.1

    back : is_in (left table) s ≡ true → list_any (good_with table s) state_sets ≡ true
    back here =
        any_contained (good_with table s) state_sets (left table) (left_is_set table first)
        (both (is_good table (left table)) (is_in (left table) s) (left_good table) here)

-- Where I is left, the states that are left are the kept ones.
pub left_is_kept : (table : Table) → is_in (left table) I ≡ true → kept table ≡ left table
unfolding kept
left_is_kept table first =
    filter_agree (is_kept table) (is_in (left table)) (kept_is_left table first) all_states
    ∙ sym (left_in_order table (length all_states))

-- ---- the laws

pub kept_good : KeptIsGood
kept_good table some =
    let first : is_in (left table) I ≡ true = sym (good_set_is_told table) ∙ some in
    subst (λ (set : List State). Contains state_sets set × Good table set) (sym (left_is_kept table first))
    (left_is_set table first, good_from_test table (left table) (left_good table))

pub in_kept : (table : Table) (s : State) → is_in (kept table) s ≡ is_kept table s
unfolding kept
in_kept table s = in_filtered (is_kept table) s

pub kept_from :
    (table : Table) (set : List State) → Contains state_sets set → is_good table set ≡ true → (s : State)
    → is_in set s ≡ true → is_kept table s ≡ true
unfolding is_kept
kept_from table set listed good s here =
    any_contained (good_with table s) state_sets set listed
    (both (is_good table set) (is_in set s) good here)

pub kept_greatest : KeptIsGreatest
kept_greatest table k d within good s here =
    let set = get_or state_sets k d in
    in_kept table s
    ∙ kept_from table set (Contains-get_or state_sets k d within) (test_from_good table set good) s here
