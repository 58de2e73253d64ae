use Rattle.std.proofs.Common.{ap, ◌∙◌}
use Rattle.std.specs.List.{list_any}
use Rattle.class_relation.specs.declared.SnoopAction.{SnoopAction}
use Rattle.class_relation.specs.Actions.{same_answer}
use Rattle.class_relation.specs.Tables.{answers_of}
use Rattle.board.specs.Rack.{setup_of}
use Rattle.bus_model.specs.Configuration.{state_at}
use Rattle.bus_model.specs.Setup.{table_of}
use Rattle.backplane.proofs.Alternatives.{any_answer}
use Rattle.backplane.proofs.permits.answering.may_answer.Goals as goal

pub returns : goal.returns
returns c =
    let rack = c.args.rack.now in
    let cell = c.snoop.ensures.cell
    ∙ (λ i. answers_of (c.table.ensures.table i) (c.state_of-state.ensures.state i) c.args.event) in
    c.has_answer.ensures ∙ ap (list_any (λ (a : SnoopAction). same_answer a c.args.action)) cell
    ∙ any_answer
    (answers_of (table_of (setup_of rack) c.args.board) (state_at rack.rows c.args.board c.args.line) c.args.event)
    c.args.action
