-- The faults of cells, state by state and event by event.
use Rattle.std.proofs.Common.{◌≡◌, ℕ, ◌<◌, ◌+◌, List, [], ◌∷◌, ◌++◌, length, map, take, get_or, refl, sym, ap, ◌∙◌, append_assoc}
use Rattle.std.specs.Prelude.{flat_map}
use Rattle.std.proofs.lemmas.List.{append-nil, take_more}
use Rattle.std.proofs.lemmas.Grind.{flat_map-append}
use Rattle.moesi_state.specs.declared.State.{State}
use Rattle.class_relation.specs.declared.Cell.{Cell}
use Rattle.class_relation.specs.Tables.{local_events, bus_events}
use Rattle.table_check.specs.declared.verdict.CellFault.{CellFault}
use Rattle.table_check.specs.Accepted.{cells_of_state}

flat_map-map :
    {X Y Z : Type 0} (f : Y → List Z) (g : X → Y) (xs : List X) → flat_map f (map g xs) ≡ flat_map (λ x. f (g x)) xs
flat_map-map f g [] = refl
flat_map-map f g (x ∷ xs) = ap (λ ys. f (g x) ++ ys) (flat_map-map f g xs)

-- The faults of the cells of a state are those of its local events and then those of its bus events.
pub state_cells :
    (f : Cell → List CellFault) (state : State) (first middle last : List CellFault)
    → middle ≡ first ++ flat_map (λ event. f (Cell.Local state event)) local_events
    → last ≡ middle ++ flat_map (λ event. f (Cell.Answer state event)) bus_events
    → last ≡ first ++ flat_map f (cells_of_state state)
state_cells f state first middle last m l =
    let here : List CellFault = flat_map (λ event. f (Cell.Local state event)) local_events in
    let there : List CellFault = flat_map (λ event. f (Cell.Answer state event)) bus_events in
    let both : flat_map f (cells_of_state state) ≡ here ++ there =
    flat_map-append f (map (λ event. Cell.Local state event) local_events)
    (map (λ event. Cell.Answer state event) bus_events)
    ∙ (ap (λ ys. ys ++ flat_map f (map (λ event. Cell.Answer state event) bus_events))
    (flat_map-map f (λ event. Cell.Local state event) local_events)
    ∙ ap (λ ys. here ++ ys) (flat_map-map f (λ event. Cell.Answer state event) bus_events)) in
    l ∙ (ap (λ ys. ys ++ there) m ∙ (append_assoc first here there ∙ ap (λ ys. first ++ ys) (sym both)))

-- The faults of the cells of one more state.
pub states_more :
    (f : Cell → List CellFault) (states : List State) (i : ℕ) (d : State) (first earlier later : List CellFault)
    → i < length states → earlier ≡ first ++ flat_map f (flat_map cells_of_state (take i states))
    → later ≡ earlier ++ flat_map f (cells_of_state (get_or states i d))
    → later ≡ first ++ flat_map f (flat_map cells_of_state (take (i + 1) states))
states_more f states i d first earlier later within before added =
    let state = get_or states i d in
    let cells : flat_map cells_of_state (take (i + 1) states)
    ≡ flat_map cells_of_state (take i states) ++ cells_of_state state =
    ap (flat_map cells_of_state) (take_more states i d within)
    ∙ (flat_map-append cells_of_state (take i states) (state ∷ [])
    ∙ ap (λ ys. flat_map cells_of_state (take i states) ++ ys) (append-nil (cells_of_state state))) in
    let more : flat_map f (flat_map cells_of_state (take (i + 1) states))
    ≡ flat_map f (flat_map cells_of_state (take i states)) ++ flat_map f (cells_of_state state) =
    ap (flat_map f) cells ∙ flat_map-append f (flat_map cells_of_state (take i states)) (cells_of_state state) in
    added
    ∙ (ap (λ ys. ys ++ flat_map f (cells_of_state state)) before
    ∙ (append_assoc first (flat_map f (flat_map cells_of_state (take i states))) (flat_map f (cells_of_state state))
    ∙ ap (λ ys. first ++ ys) (sym more)))
