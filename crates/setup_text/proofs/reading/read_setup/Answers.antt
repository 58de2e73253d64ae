use Rattle.setup_text.proofs.Setups.{is_spelled}
use Rattle.setup_text.proofs.SetupFaults.{is_first}
use Rattle.setup_text.proofs.ReadAgain.{is_read, is_read_again}
use Rattle.setup_text.proofs.reading.read_setup.Goals as goal

pub returns-clause-spelled : goal.returns-clause-spelled
returns-clause-spelled c = is_spelled c.args.bytes.now (λ v. v) c.setup.result c.setup.ensures

pub returns-clause-only : goal.returns-clause-only
returns-clause-only c = is_read c.args.bytes.now c.setup.result c.setup.ensures

pub returns-clause-written : goal.returns-clause-written
returns-clause-written c = is_read_again c.args.bytes.now c.setup.result c.setup.ensures

pub returns-clause-first : goal.returns-clause-first
returns-clause-first c = is_first c.args.bytes.now (λ v. v) c.setup.result c.setup.ensures
