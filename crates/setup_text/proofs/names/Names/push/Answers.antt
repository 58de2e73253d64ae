use Rattle.std.proofs.Common.{ℕ, List, [], ◌∷◌, ◌++◌, ap, ◌∙◌}
use Rattle.setup_text.specs.Drafts.{Named, found_name}
use Rattle.setup_text.proofs.Naming.{pushed}
use Rattle.setup_text.proofs.names.Names.push.Goals as goal

pub returns-clause-ok : goal.returns-clause-ok
returns-clause-ok c =
    pushed c.extend_from_slice.new.self c.args.stays_invalid c.args.name.now c.self.inside.found.entries
    c.insert.new.self.entries
    (c.in-Ok.ensures.items ∙ ap (λ (x : List ℕ). x ++ c.args.name.now) c.new-bytes.ensures.items)
    c.in-Ok-insert.ensures.entries
    (ap (λ (n : List Named). found_name n c.args.name.now) c.self.view_is ∙ c.requires)
    ∙ ap (λ (n : List Named). n ++ (c.args.name.now, c.args.stays_invalid) ∷ []) c.self.view_is
