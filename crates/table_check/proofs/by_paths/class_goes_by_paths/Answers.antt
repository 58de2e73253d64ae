use Rattle.table_check.proofs.ByPaths.{reached_by_paths, class_by_paths}
use Rattle.table_check.proofs.by_paths.class_goes_by_paths.Goals as goal

pub returns-clause-reached : goal.returns-clause-reached
returns-clause-reached c = reached_by_paths

pub returns-clause-in_class : goal.returns-clause-in_class
returns-clause-in_class c = class_by_paths
