use Rattle.std.proofs.Common.{List, [], ◌∷◌, ◌++◌, sym, ap, ◌∙◌, arith}
use Rattle.std.specs.Prelude.{codes}
use Rattle.std.proofs.lemmas.List.{append-nil}
use Rattle.fb_text.specs.Places.{Words}
use Rattle.fb_text.specs.Written.{after_words}
use Rattle.class_relation.specs.declared.SnoopAction.{SnoopAction}
use Rattle.table_text.specs.Spelling.{snoop_words}
use Rattle.table_text.proofs.Writes.{led, led_is, drop_end}
use Rattle.table_text.proofs.writing.snoop_alternatives.Goals as goal

pub returns-clause-bytes : goal.returns-clause-bytes
returns-clause-bytes c =
    let none = drop_end c.args.alternatives.now c.loop-action.action-index (omega arith) in
    sym (append-nil c.loop-action.text.bytes)
    ∙ (ap (λ (v : List SnoopAction).
    c.loop-action.text.bytes ++ after_words (led (c.loop-action.lead ∷ []) snoop_words v)) (sym none)
    ∙ (c.loop-action.invariant.bytes
    ∙ ap (λ (v : Words). c.args.text.now.bytes ++ after_words v)
    (sym (led_is snoop_words (codes "=") c.args.alternatives.now c.requires.some))))
