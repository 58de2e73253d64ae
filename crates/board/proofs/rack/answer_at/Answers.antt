use Rattle.std.proofs.Common.{arith, ◌%◌, length}
use Rattle.board.proofs.Among.{answer-among}
use Rattle.board.proofs.rack.answer_at.Goals as goal

pub returns-clause-among : goal.returns-clause-among
returns-clause-among c = λ h. answer-among c.args.actions.now (c.args.draw % length c.args.actions.now) _ (omega arith)
