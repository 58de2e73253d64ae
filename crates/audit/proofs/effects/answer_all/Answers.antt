use Rattle.std.proofs.Common.{ap, map, rules, ◌∙◌}
use Rattle.std.specs.Prelude.{is_some}
use Rattle.std.proofs.lemmas.Fn.{filter_same}
use Rattle.bus_model.specs.Configuration.{Row}
use Rattle.audit.specs.Rows.{answered_row}
use Rattle.audit.specs.Steps.{any_answering_row}
use Rattle.audit.proofs.RowLists.{kept-map, lent-mapped}
use Rattle.audit.proofs.effects.answer_all.Goals as goal

pub returns : goal.returns
returns c =
    let f = answered_row c.args.carried.now c.args.own in
    let left = c.retain.new.self in
    lent-mapped f left.len left.items c.answer_each.new.rows left.ok.0
    (c.answer_each.ensures ∙ ap (map f) c.as_mut_slice.ensures.value)
    ∙ ap (map f)
    (filter_same _ (λ (row : Row). is_some (any_answering_row c.args.carried.now c.args.own row)) _
    (λ x b f' t. search rules) _ _ c.retain.ensures.filtered)
    ∙ kept-map (any_answering_row c.args.carried.now c.args.own) c.args.rows.now.items
