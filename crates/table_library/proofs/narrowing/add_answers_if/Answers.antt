use Rattle.std.proofs.Common.{List, false, sym}
use Rattle.moesi_state.specs.declared.State.TheVariants.{M}
use Rattle.class_relation.specs.declared.SnoopAction.{SnoopAction}
use Rattle.class_relation.specs.Actions.{answer}
use Rattle.class_relation.specs.Tables.{Table}
use Rattle.table_library.specs.Filling.{with_answers}
use Rattle.table_library.proofs.Filled.{answers_nothing, answers_twice, passing_step}
use Rattle.table_library.proofs.narrowing.add_answers_if.Goals as goal

pub loop-answer-init : goal.loop-answer-init
loop-answer-init c = sym (answers_nothing c.args.table.now c.args.state c.args.event)

pub loop-answer-preserved : goal.loop-answer-preserved
loop-answer-preserved c =
    passing_step (λ (xs : List SnoopAction). with_answers c.args.table.now c.args.state c.args.event xs)
    (λ (t : Table) (xs : List SnoopAction). with_answers t c.args.state c.args.event xs)
    (answers_twice c.args.table.now c.args.state c.args.event)
    (λ (answer : SnoopAction). c.args.needed)
    c.args.answers.now c.loop-answer.answer-index (answer M false false false) c.loop-answer.table
    c.add_answer_if.new.table c.loop-answer-test.true c.loop-answer.invariant c.in_ok-add_answer_if.ensures
