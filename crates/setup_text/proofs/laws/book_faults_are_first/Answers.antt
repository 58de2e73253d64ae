use Rattle.setup_text.proofs.OnlyFaults
use Rattle.setup_text.proofs.laws.book_faults_are_first.Goals as goal

pub returns : goal.returns
returns c = OnlyFaults.books_first
