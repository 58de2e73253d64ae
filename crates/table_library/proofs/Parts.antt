-- The parts of a table, and what they reach.
use Rattle.std.proofs.Common.{◌≡◌, ◌↔◌, Bool, true, ◌&&◌, ◌⊎◌, inl, inr, List, [], ◌∷◌, filter, subst}
use Rattle.std.specs.Prelude.{IsTrue}
use Rattle.std.specs.List.{list_any}
use Rattle.bus_signals.specs.declared.BusEvent.{BusEvent}
use Rattle.bus_signals.specs.declared.LocalEvent.{LocalEvent}
use Rattle.moesi_state.specs.declared.State.{State}
use Rattle.moesi_state.specs.declared.State.TheVariants.{I}
use Rattle.moesi_state.specs.States.{same_state}
use Rattle.moesi_state.specs.Outcomes.{may_settle}
use Rattle.class_relation.specs.declared.LocalAction.{LocalAction}
use Rattle.class_relation.specs.declared.SnoopAction.{SnoopAction}
use Rattle.class_relation.specs.Tables.{Table, locals_of, answers_of, local_events, bus_events}
use Rattle.class_relation.proofs.Spelling.{both_true}
use Rattle.table_check.specs.Reached.{leads_locally, leads_by_answer, leads_to, IsPath, Reached, is_reached}
use Rattle.table_check.proofs.Reaching.{reached-test, test-reached}
use Rattle.table_library.specs.Cells.{part_by}
use Rattle.table_library.proofs.Passing.{both, both_ways, one_of, either_left, either_right, any_more, any_filtered}
use Rattle.table_library.proofs.CellLemmas.{local_cells, answer_cells}

-- A test that is true exactly where a state is reached is the test of reached states.
pub reaches_is :
    (table : Table) (state : State) (b : Bool) → (IsTrue b ↔ Reached table state) → b ≡ is_reached table state
reaches_is table state b both =
    both_ways b (is_reached table state) (λ h. reached-test table state (both.0 h))
    (λ h. both.1 (test-reached table state h))

-- ---- cells of parts

pub part_local :
    (p : State → LocalEvent → LocalAction → Bool) (q : State → BusEvent → SnoopAction → Bool) (table : Table)
    (state : State) (event : LocalEvent)
    → locals_of (part_by p q table) state event ≡ filter (p state event) (locals_of table state event)
part_local p q table state event =
    local_cells table.name (λ state event. filter (p state event) (locals_of table state event))
    (λ state event. filter (q state event) (answers_of table state event)) state event

pub part_answer :
    (p : State → LocalEvent → LocalAction → Bool) (q : State → BusEvent → SnoopAction → Bool) (table : Table)
    (state : State) (event : BusEvent)
    → answers_of (part_by p q table) state event ≡ filter (q state event) (answers_of table state event)
part_answer p q table state event =
    answer_cells table.name (λ state event. filter (p state event) (locals_of table state event))
    (λ state event. filter (q state event) (answers_of table state event)) state event

module _ (p : State → LocalEvent → LocalAction → Bool) (q : State → BusEvent → SnoopAction → Bool) (table : Table)
  where
    -- A part leads locally to a state only by an alternative that passes.
    pub part_leads_locally :
        (s t : State) → leads_locally (part_by p q table) s t ≡ true
        → list_any (λ event. list_any (λ (a : LocalAction). p s event a && may_settle a.result t)
        (locals_of table s event)) local_events ≡ true
    part_leads_locally s t h =
        any_more
        (λ event. list_any (λ (a : LocalAction). may_settle a.result t) (locals_of (part_by p q table) s event))
        (λ event. list_any (λ (a : LocalAction). p s event a && may_settle a.result t) (locals_of table s event))
        local_events
        (λ event k. any_filtered (p s event) (λ (a : LocalAction). may_settle a.result t) (locals_of table s event)
        (subst (λ (cell : List LocalAction). list_any (λ (a : LocalAction). may_settle a.result t) cell ≡ true)
        (part_local p q table s event) k))
        h

    pub part_leads_by_answer :
        (s t : State) → leads_by_answer (part_by p q table) s t ≡ true
        → list_any (λ event. list_any (λ (a : SnoopAction). q s event a && same_state a.result t)
        (answers_of table s event)) bus_events ≡ true
    part_leads_by_answer s t h =
        any_more
        (λ event. list_any (λ (a : SnoopAction). same_state a.result t) (answers_of (part_by p q table) s event))
        (λ event. list_any (λ (a : SnoopAction). q s event a && same_state a.result t) (answers_of table s event))
        bus_events
        (λ event k. any_filtered (q s event) (λ (a : SnoopAction). same_state a.result t) (answers_of table s event)
        (subst (λ (cell : List SnoopAction). list_any (λ (a : SnoopAction). same_state a.result t) cell ≡ true)
        (part_answer p q table s event) k))
        h

    -- A part leads to what the table leads to.
    part_leads : (s t : State) → leads_to (part_by p q table) s t ≡ true → leads_to table s t ≡ true
    part_leads s t h =
        go (one_of (leads_locally (part_by p q table) s t) (leads_by_answer (part_by p q table) s t) h)
      where
        go :
            (leads_locally (part_by p q table) s t ≡ true) ⊎ (leads_by_answer (part_by p q table) s t ≡ true)
            → leads_to table s t ≡ true
        go (inl local) =
            either_left (leads_locally table s t) (leads_by_answer table s t)
            (any_more
            (λ event. list_any (λ (a : LocalAction). p s event a && may_settle a.result t) (locals_of table s event))
            (λ event. list_any (λ (a : LocalAction). may_settle a.result t) (locals_of table s event))
            local_events
            (λ event. any_more (λ (a : LocalAction). p s event a && may_settle a.result t)
            (λ (a : LocalAction). may_settle a.result t) (locals_of table s event)
            (λ a k. (both_true (p s event a) (may_settle a.result t) k).1))
            (part_leads_locally s t local))
        go (inr answer) =
            either_right (leads_locally table s t) (leads_by_answer table s t)
            (any_more
            (λ event. list_any (λ (a : SnoopAction). q s event a && same_state a.result t) (answers_of table s event))
            (λ event. list_any (λ (a : SnoopAction). same_state a.result t) (answers_of table s event))
            bus_events
            (λ event. any_more (λ (a : SnoopAction). q s event a && same_state a.result t)
            (λ (a : SnoopAction). same_state a.result t) (answers_of table s event)
            (λ a k. (both_true (q s event a) (same_state a.result t) k).1))
            (part_leads_by_answer s t answer))

    part_path :
        (s last : State) (path : List State) → IsPath (part_by p q table) s path last → IsPath table s path last
    part_path s last [] h = h
    part_path s last (next ∷ path) h = (part_leads s next h.0, part_path next last path h.1)

    -- What a part reaches, the table reaches.
    pub part_reached : (s : State) → Reached (part_by p q table) s → Reached table s
    part_reached s r = (r.0, r.1, part_path I s r.0 r.2)
