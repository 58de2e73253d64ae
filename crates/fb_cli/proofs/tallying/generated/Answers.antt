use Rattle.generator.specs.Generated.{generated}
use Rattle.fb_cli.proofs.AcceptedTables.{all-accepted, made-accepted}
use Rattle.fb_cli.proofs.tallying.generated.Goals as goal

pub returns-clause-accepted : goal.returns-clause-accepted
returns-clause-accepted c =
    let setup = generated c.args.seed in
    made-accepted setup c.make_setup.result
    (all-accepted setup.tables (c.generated_setups_are_accepted.ensures.in_class c.args.seed)) c.make_setup.ensures
