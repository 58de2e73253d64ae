use Rattle.generator.proofs.Fitting.{generated_fits, generated_in_class, count_dealt}
use Rattle.generator.proofs.laws.generated_setups_are_accepted.Goals as goal

pub returns-clause-well_formed : goal.returns-clause-well_formed
returns-clause-well_formed c = generated_fits

pub returns-clause-in_class : goal.returns-clause-in_class
returns-clause-in_class c = generated_in_class

pub returns-clause-accesses : goal.returns-clause-accesses
returns-clause-accesses c = λ n. count_dealt n 100000
