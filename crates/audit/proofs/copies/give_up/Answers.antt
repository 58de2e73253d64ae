use Rattle.std.proofs.Common.{rules, not, ◌∙◌}
use Rattle.std.proofs.lemmas.Fn.{filter_same}
use Rattle.bus_model.specs.Configuration.{Row, is_copy}
use Rattle.audit.proofs.RowLists.{left-out}
use Rattle.audit.proofs.copies.give_up.Goals as goal

pub returns : goal.returns
returns c =
    filter_same _ (λ (row : Row). not (is_copy c.args.board c.args.line row)) _ (λ x b f' t. search rules) _ _
    c.retain.ensures.filtered
    ∙ left-out (is_copy c.args.board c.args.line) c.args.rows.now.items
