use Rattle.std.proofs.Common.{ℕ, Bool, List, ◌++◌, map, length, ◌/◌, ap, ◌∙◌}
use Rattle.fb_text.specs.Written.{line_bytes, lines_bytes}
use Rattle.class_relation.specs.Tables.{Table}
use Rattle.setup_text.specs.Spelling.{memory_row, arbiter_rows, word_row, tables_rows}
use Rattle.setup_text.specs.Writing.{words_from, text_of_table}
use Rattle.setup_text.proofs.Writes.{setup_written}
use Rattle.setup_text.proofs.writing.write_setup.Goals as goal

pub returns-clause-written : goal.returns-clause-written
returns-clause-written c =
    let old = c.args.text.now.bytes in
    setup_written old c.line_of_one.new.text.bytes c.arbiter_line.new.text.bytes c.word_lines.new.text.bytes
    c.all_tables.new.text.bytes c.all_boards.new.text.bytes c.push.new.self.bytes c.args.setup.now
    (c.line_of_one.ensures.bytes
    ∙ (ap (λ (v : List ℕ). v ++ line_bytes (memory_row (length c.memory-memory.result.now / 4)))
    c.in_ok-reserve.ensures.bytes
    ∙ ap (λ (v : List ℕ). old ++ line_bytes (memory_row (length v / 4))) c.memory-memory.ensures.memory))
    (c.arbiter_line.ensures.bytes
    ∙ ap (λ (v : Bool). c.line_of_one.new.text.bytes ++ lines_bytes (arbiter_rows v)) c.fair.ensures.fair)
    (c.word_lines.ensures.bytes
    ∙ ap (λ (v : List ℕ). c.arbiter_line.new.text.bytes ++ lines_bytes (map word_row (words_from 0 v)))
    c.memory-memory.ensures.memory)
    (c.all_tables.ensures.bytes
    ∙ ap (λ (v : List Table). c.word_lines.new.text.bytes ++ lines_bytes (tables_rows (map text_of_table v)))
    c.tables.ensures.tables)
    c.all_boards.ensures.bytes c.push.ensures.bytes
