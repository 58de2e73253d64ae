use Rattle.table_library.proofs.protocols.copy_back_action.Goals as goal

pub returns-in-Read : goal.returns-in-Read
returns-in-Read c = rw c.in-Read.is (c.copy_back_read.ensures c.args.shared)

pub returns-in-Pass : goal.returns-in-Pass
returns-in-Pass c = rw c.in-Pass.is (c.copy_back_pass.ensures c.args.shared)

pub returns-in-Flush : goal.returns-in-Flush
returns-in-Flush c = rw c.in-Flush.is (c.copy_back_flush.ensures c.args.shared)
