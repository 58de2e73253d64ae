-- The answers of the tables of the library are those of the rule: computed over all cells.
use Rattle.std.proofs.Common.{◌≡◌, Bool, true, false, ◌&&◌, List, [], ◌∷◌, refl}
use Rattle.std.specs.List.{list_all}
use Rattle.std.specs.Option.{option_to_list}
use Rattle.bus_signals.specs.declared.BusEvent.{BusEvent}
use Rattle.bus_signals.proofs.Events.{each_bus}
use Rattle.moesi_state.specs.declared.State.{State}
use Rattle.moesi_state.specs.declared.State.TheVariants.{M, O, E, S, I}
use Rattle.class_relation.specs.declared.SnoopAction.{SnoopAction}
use Rattle.class_relation.specs.Actions.{same_answer}
use Rattle.class_relation.specs.Tables.{answers_of, bus_events}
use Rattle.class_relation.proofs.Spelling.{both_true, same_answer-eq}
use Rattle.table_library.specs.declared.kinds.Kind.{Kind}
use Rattle.table_library.specs.declared.kinds.Kind.TheVariants.{Invalidate, Update, Through, ThroughBroadcast, Exclusive, Uncached}
use Rattle.table_library.specs.Rules.{rule_answer}
use Rattle.table_library.specs.Protocols.{protocol_table}

-- Whether two cells are spelled the same.
abbrev same_cell : List SnoopAction → List SnoopAction → Bool
same_cell [] [] = true
same_cell (x ∷ xs) (y ∷ ys) = same_answer x y && same_cell xs ys
same_cell [] (y ∷ ys) = false
same_cell (x ∷ xs) [] = false

same_cell-eq : (xs ys : List SnoopAction) → same_cell xs ys ≡ true → xs ≡ ys
same_cell-eq [] [] h = refl
same_cell-eq (x ∷ xs) (y ∷ ys) h =
    let p = both_true (same_answer x y) (same_cell xs ys) h in
    let first = same_answer-eq x y p.0 in
    let rest = same_cell-eq xs ys p.1 in
    λ i. first i ∷ rest i
same_cell-eq [] (y ∷ ys) h = cc
same_cell-eq (x ∷ xs) [] h = cc

-- Whether the rule gives the cell of the table.
abbrev agrees : Kind → State → BusEvent → Bool
agrees kind state event =
    same_cell (option_to_list (rule_answer kind state event)) (answers_of (protocol_table kind) state event)

all_agree : (kind : Kind) (state : State) → list_all (agrees kind state) bus_events ≡ true
all_agree Invalidate M = refl
all_agree Invalidate O = refl
all_agree Invalidate E = refl
all_agree Invalidate S = refl
all_agree Invalidate I = refl
all_agree Update M = refl
all_agree Update O = refl
all_agree Update E = refl
all_agree Update S = refl
all_agree Update I = refl
all_agree Through M = refl
all_agree Through O = refl
all_agree Through E = refl
all_agree Through S = refl
all_agree Through I = refl
all_agree ThroughBroadcast M = refl
all_agree ThroughBroadcast O = refl
all_agree ThroughBroadcast E = refl
all_agree ThroughBroadcast S = refl
all_agree ThroughBroadcast I = refl
all_agree Exclusive M = refl
all_agree Exclusive O = refl
all_agree Exclusive E = refl
all_agree Exclusive S = refl
all_agree Exclusive I = refl
all_agree Uncached M = refl
all_agree Uncached O = refl
all_agree Uncached E = refl
all_agree Uncached S = refl
all_agree Uncached I = refl

pub rule_answers :
    (kind : Kind) (state : State) (event : BusEvent)
    → option_to_list (rule_answer kind state event) ≡ answers_of (protocol_table kind) state event
rule_answers kind state event =
    same_cell-eq (option_to_list (rule_answer kind state event)) (answers_of (protocol_table kind) state event)
    (each_bus (agrees kind state) (all_agree kind state) event)
