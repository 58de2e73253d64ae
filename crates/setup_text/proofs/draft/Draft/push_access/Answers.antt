use Rattle.setup_text.proofs.Drafts.{access_added_keeps}
use Rattle.setup_text.specs.contracts.draft.Draft.{the_view}
use Rattle.setup_text.proofs.draft.Draft.push_access.Goals as goal

pub invariant_of-self-2 : goal.invariant_of-self-2
invariant_of-self-2 c =
    access_added_keeps (the_view c.self.inside) c.args.self.now c.args.access _ c.self.inside.accesses c.self.view_is
    c.self.invariant.0 c.self.invariant.1 c.requires.some c.requires.few c.requires.within
    c.in_ok-add_access.ensures.ok
