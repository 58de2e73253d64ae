use Rattle.table_library.proofs.Serving.{good_by_cells}
use Rattle.table_library.proofs.Keeping.{kept_good, kept_greatest}
use Rattle.table_library.proofs.NarrowedParts.{narrowed_in_class}
use Rattle.table_library.proofs.Largest.{narrowed_largest}
use Rattle.table_library.proofs.laws.kept_states_are_greatest.Goals as goal

pub returns-clause-by_cells : goal.returns-clause-by_cells
returns-clause-by_cells c = good_by_cells

pub returns-clause-good : goal.returns-clause-good
returns-clause-good c = kept_good

pub returns-clause-greatest : goal.returns-clause-greatest
returns-clause-greatest c = kept_greatest

pub returns-clause-in_class : goal.returns-clause-in_class
returns-clause-in_class c = narrowed_in_class

pub returns-clause-largest : goal.returns-clause-largest
returns-clause-largest c = narrowed_largest
