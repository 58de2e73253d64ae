use Rattle.std.proofs.Common.{ap, ◌++◌, ℕ, get_or, ◌∙◌, arith}
use Rattle.std.proofs.lemmas.List.{get_or_default}
use Rattle.std.proofs.lemmas.Bool.{ne_eqb, eq-eqb}
use Rattle.fb_text.specs.Written.{Written, line_bytes}
use Rattle.setup_text.specs.Spelling.{word_row}
use Rattle.setup_text.proofs.Writes.{word_more, some_word, no_word}
use Rattle.setup_text.proofs.writing.word_lines.Goals as goal
use Rattle.setup_text.proofs.writing.word_lines.Goals.{then-value-ne0, else-value-ne0}

pub loop-addr-preserved : goal.loop-addr-preserved
loop-addr-preserved c =
    let old = c.args.text.now.bytes in
    let bytes = c.loop-addr.text.bytes in
    let xs = c.args.memory.now in
    let i = c.loop-addr.addr in
    let x = get_or xs i 0 in
    elim c.if-value-ne0.branch [
      | then-value-ne0 w ↦ record {
        bytes =
            word_more old bytes c.if-value-ne0.text.bytes xs i x c.loop-addr-test.true
            (get_or_default xs i 0 x c.loop-addr-test.true) c.loop-addr.invariant.bytes
            (ap (λ (t : Written). t.bytes) w.text-is
            ∙ (w.line_of_two.ensures.bytes
            ∙ (ap (λ (v : ℕ). bytes ++ line_bytes (word_row (i, v))) w.from.ensures
            ∙ some_word bytes i x (ne_eqb _ _ w.if-value-ne0.true))));
        room = omega (arith, ap (λ (t : Written). t.spare) w.text-is);
        spare = omega (arith, ap (λ (t : Written). t.spare) w.text-is);
      }
      | else-value-ne0 w ↦ record {
        bytes =
            word_more old bytes c.if-value-ne0.text.bytes xs i x c.loop-addr-test.true
            (get_or_default xs i 0 x c.loop-addr-test.true) c.loop-addr.invariant.bytes
            (ap (λ (t : Written). t.bytes) w.text-is ∙ no_word bytes i x (eq-eqb _ _ w.if-value-ne0.false));
        room = omega (arith, ap (λ (t : Written). t.spare) w.text-is);
        spare = omega (arith, ap (λ (t : Written). t.spare) w.text-is);
      }
    ]
