use Rattle.std.proofs.Common.{◌-◌, ◌∙◌, ap, arith}
use Rattle.std.proofs.Math.Seq.{map-set_same}
use Rattle.setup_text.proofs.Drafts.{rows_pushed}
use Rattle.setup_text.proofs.draft.add_access.Goals as goal

pub returns-in-Ok-clause-ok : goal.returns-in-Ok-clause-ok
returns-in-Ok-clause-ok c =
    rows_pushed c.args.scripts.now.items c.len-last.result c.index_mut.result.now c.push.new.self c.args.access
    (omega arith) (omega arith) c.index_mut.ensures.value c.in-Ok.ensures.items

pub returns-in-Err-clause-err : goal.returns-in-Err-clause-err
returns-in-Err-clause-err c =
    map-set_same (λ v. v.items) c.args.scripts.now.items (c.len-last.result - 1) c.push.new.self c.index_mut.result.now
    (c.in-Err.ensures.items ∙ ap (λ v. v.items) c.index_mut.ensures.value)
