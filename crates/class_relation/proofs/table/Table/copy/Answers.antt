use Rattle.std.proofs.Common.{◌≡◌, List, refl, sym, subst}
use Rattle.class_relation.specs.Rows.{rows}
use Rattle.class_relation.specs.Tables.{CellsFit}
use Rattle.class_relation.specs.declared.LocalAction.{LocalAction}
use Rattle.class_relation.specs.declared.SnoopAction.{SnoopAction}
use Rattle.class_relation.proofs.RowLemmas.{rows_again}
use Rattle.class_relation.proofs.table.Table.copy.Goals as goal

pub invariant_of-result : goal.invariant_of-result
invariant_of-result c =
    let locals : rows c.in-Ok.locals ≡ rows c.self.inside.locals =
    rows_again c.self.inside.locals c.in-Ok.locals c.in-Ok.ensures.cases.whole in
    let answers : rows c.in-Ok-clone.answers ≡ rows c.self.inside.answers =
    rows_again c.self.inside.answers c.in-Ok-clone.answers c.in-Ok-clone.ensures.cases.whole in
    record {
      locals = rw locals c.self.invariant.locals;
      answers = rw answers c.self.invariant.answers;
      few_locals = subst (λ (cells : List (List LocalAction)). CellsFit cells) (sym locals) c.self.invariant.few_locals;
      few_answers =
          subst (λ (cells : List (List SnoopAction)). CellsFit cells) (sym answers) c.self.invariant.few_answers;
    }

pub returns : goal.returns
returns c =
    let locals : rows c.in-Ok.locals ≡ rows c.self.inside.locals =
    rows_again c.self.inside.locals c.in-Ok.locals c.in-Ok.ensures.cases.whole in
    let answers : rows c.in-Ok-clone.answers ≡ rows c.self.inside.answers =
    rows_again c.self.inside.answers c.in-Ok-clone.answers c.in-Ok-clone.ensures.cases.whole in
    rw (locals, answers, c.copy.ensures.copy, c.self.view_is) refl
