use Rattle.std.proofs.Common.{◌≡◌, ◌∙◌, ◌++◌, ℕ, List, codes, ap}
use Rattle.table_library.specs.Lines.{board_lines, memory_line}
use Rattle.table_library.specs.Traffic.{counts_at, counts_of, memory_counts}
use Rattle.table_library.proofs.TrafficLines.{same_lines, two_pieces, memory_pieces}
use Rattle.table_library.proofs.lines.write_traffic.Goals as goal

pub returns-clause-lines : goal.returns-clause-lines
returns-clause-lines c =
    let journal = c.args.journal.now in
    let old = c.args.text.now.bytes in
    let here = c.board_lines.new.text.bytes in
    let same = same_lines (counts_at c.traffic-report.result) (counts_of journal) c.args.boards
    c.traffic-report.ensures.boards c.requires.most in
    let memory : c.memory-served.result ≡ memory_counts journal =
    c.memory-served.ensures ∙ c.traffic-report.ensures.memory in
    two_pieces old here c.supplied_and_taken.new.text.bytes
    (board_lines (counts_of journal) c.args.boards) (memory_line (memory_counts journal))
    (c.board_lines.ensures.appends.bytes ∙ ap (λ (t : List ℕ). old ++ t) same)
    (two_pieces here c.push.new.self.bytes c.supplied_and_taken.new.text.bytes (codes "traffic memory") _
    c.push.ensures.bytes c.supplied_and_taken.ensures.appends.bytes
    ∙ ap (λ (t : List ℕ). here ++ t) (memory_pieces c.memory-served.result.0 c.memory-served.result.1)
    ∙ ap (λ (m : ℕ × ℕ). here ++ memory_line m) memory)
