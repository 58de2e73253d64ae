use Rattle.setup_text.proofs.Books.{is_spelled, is_read}
use Rattle.setup_text.proofs.BookFaults.{is_first}
use Rattle.setup_text.proofs.book.read_book.Goals as goal

pub returns-clause-spelled : goal.returns-clause-spelled
returns-clause-spelled c = is_spelled c.args.bytes.now (λ v. v.items) c.book.result c.book.ensures

pub returns-clause-only : goal.returns-clause-only
returns-clause-only c = is_read c.args.bytes.now (λ v. v.items) c.book.result c.book.ensures

pub returns-clause-first : goal.returns-clause-first
returns-clause-first c = is_first c.args.bytes.now (λ v. v.items) c.book.result c.book.ensures
