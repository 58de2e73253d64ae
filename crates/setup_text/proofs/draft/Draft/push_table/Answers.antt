use Rattle.setup_text.proofs.Drafts.{tables_added_keep}
use Rattle.setup_text.specs.contracts.draft.Draft.{the_view}
use Rattle.setup_text.proofs.draft.Draft.push_table.Goals as goal

pub invariant_of-self : goal.invariant_of-self
invariant_of-self c = (
  tables_added_keep (the_view c.self.inside) c.args.self.now c.args.table c.push.new.self c.push.result
      c.self.view_is c.self.invariant.0 c.requires.few c.requires.new c.push.ensures.ok c.push.ensures.err,
  c.self.invariant.1,
)
