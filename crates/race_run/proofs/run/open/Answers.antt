use Rattle.race_run.proofs.run.open.Goals as goal

pub returns-in-Ok-clause-numbered : goal.returns-in-Ok-clause-numbered
returns-in-Ok-clause-numbered c = λ k s e. (c.in-Ok.ensures.new k s e).0
