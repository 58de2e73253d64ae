-- Generated setups are accepted, as the report on tables tells it.
use Rattle.std.proofs.Common.{◌≡◌, true, ap, List, Ok, Err, subst, sym}
use Rattle.std.specs.Prelude.{All, IfOk, Result}
use Rattle.std.specs.List.{list_all}
use Rattle.std.proofs.lemmas.List.Sums.{list_all-from_AllPass}
use Rattle.class_relation.specs.Permitted.{is_empty}
use Rattle.class_relation.specs.Tables.{Table}
use Rattle.table_check.specs.Accepted.{InClass}
use Rattle.bus_model.specs.Setup.{Setup}
use Rattle.fb_cli.specs.Report.{is_accepted}

-- Tables that are in the class are accepted.
pub all-accepted : (tables : List Table) → All InClass tables → list_all is_accepted tables ≡ true
all-accepted tables each = list_all-from_AllPass is_accepted tables (λ i d less. ap is_empty (each i d less))

-- What is known of one setup is known of what was made of it.
pub made-accepted :
    {E : Type 0} (setup : Setup) (made : Result Setup E) → list_all is_accepted setup.tables ≡ true
    → IfOk made (λ s. s ≡ setup) → IfOk made (λ s. list_all is_accepted s.tables ≡ true)
made-accepted setup (Ok s) accepted same =
    subst (λ (x : Setup). list_all is_accepted x.tables ≡ true) (sym same) accepted
made-accepted setup (Err e) accepted same = tt
