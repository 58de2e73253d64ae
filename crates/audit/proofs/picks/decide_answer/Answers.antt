use Rattle.std.proofs.Common.{◌≡◌, ℕ, ◌%◌, length, ap, ap₂, ◌∙◌}
use Rattle.std.specs.Prelude.{slice_index_or}
use Rattle.class_relation.specs.declared.SnoopAction.{SnoopAction}
use Rattle.class_relation.specs.Tables.{answers_of}
use Rattle.bus_model.specs.Configuration.{state_at}
use Rattle.coherence.proofs.Places.{IsPlace}
use Rattle.audit.specs.Filled.{fallback_answer, filled_cell}
use Rattle.audit.specs.Parts.{shown}
use Rattle.audit.proofs.Picking.{answer_decided}
use Rattle.audit.proofs.picks.decide_answer.Goals as goal

pub returns : goal.returns
returns c =
    let setup = c.args.setup.now in
    let rows = c.args.parts.now.rows.items in
    let board = c.args.board in
    let raw = c.snoop-cell.result.now in
    let there : IsPlace (length setup.boards) board = record { low = c.requires.0; high = c.requires.1 } in
    let state : c.state_of-state.result ≡ state_at rows board c.args.line =
    c.state_of-state.ensures ∙ (λ i. state_at (c.deref.ensures.value i) board c.args.line) in
    answer_decided setup (shown c.args.parts.now) board c.boards-boards.ensures.sound there c.args.line c.args.event raw
    c.picked.result
    (c.snoop-cell.ensures.cell ∙ (λ i. answers_of (c.table_of.ensures i) (state i) c.args.event))
    (c.picked.ensures
    ∙ ap₂ (λ (other : SnoopAction) (draw : ℕ).
    slice_index_or (filled_cell other raw) (draw % length (filled_cell other raw)) other)
    (c.fallback_answer.ensures ∙ ap fallback_answer state) c.draw_of.ensures)
