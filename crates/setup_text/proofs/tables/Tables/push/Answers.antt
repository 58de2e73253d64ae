use Rattle.std.proofs.Common.{List, ◌∷◌, [], ◌++◌, ap, ◌∙◌}
use Rattle.class_relation.specs.Tables.{Table}
use Rattle.setup_text.proofs.Drafts.{tables_pushed}
use Rattle.setup_text.proofs.tables.Tables.push.Goals as goal

pub invariant_of-self-2 : goal.invariant_of-self-2
invariant_of-self-2 c =
    tables_pushed c.self.inside.tables.items c.args.self.now c.push-2.new.self.items c.args.table c.self.inside.names
    c.push.new.self c.bytes.result.now c.stays_invalid.result c.self.view_is c.self.invariant.0 c.self.invariant.1
    ((rw c.unwrap.ensures at c.push-2.ensures.items)
    ∙ ap (λ (x : List Table). x ++ c.args.table ∷ []) c.reserve.ensures.items) c.in_ok-push.ensures.ok
    (c.bytes.ensures.bytes ∙ c.name.ensures.name) c.stays_invalid.ensures c.requires.few c.requires.new
