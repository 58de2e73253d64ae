use Rattle.std.proofs.Common.{sym, ap, ◌∙◌, subst}
use Rattle.backplane.specs.Machine.{Machine, opened}
use Rattle.replayer.specs.Lines.{trace_of}
use Rattle.replayer.specs.Traces.{Place, ending}
use Rattle.replayer.proofs.Ended.{replayed_left}
use Rattle.replayer.specs.Replaying.{step, close}
use Rattle.replayer.specs.Runs.{Accepts, IsOnlyAnswer}
use Rattle.replayer.proofs.Saying.{says_of, accepts}
use Rattle.replayer.proofs.Only.{only}
use Rattle.replayer.proofs.pieces.Replay.finish.Goals as goal

pub returns-clause-replayed : goal.returns-clause-replayed
returns-clause-replayed c =
    λ text stands.
    c.answer.ensures.ending
    ∙ (ap (λ (p : Place Machine). ending close p) stands ∙ replayed_left step close (opened c.args.self.setup) text)

pub returns-clause-says : goal.returns-clause-says
returns-clause-says c =
    λ text stands.
    says_of c.args.self.setup (trace_of text) c.answer.result (returns-clause-replayed c text stands)
    c.answer.ensures.complete

pub returns-clause-accepts : goal.returns-clause-accepts
returns-clause-accepts c = λ text stands.
    let is = returns-clause-replayed c text stands in
    subst (Accepts c.args.self.setup (trace_of text)) (sym is) (accepts c.args.self.setup (trace_of text) 1)

pub returns-clause-only : goal.returns-clause-only
returns-clause-only c = λ text stands.
    let is = returns-clause-replayed c text stands in
    subst (IsOnlyAnswer c.args.self.setup (trace_of text)) (sym is) (only c.args.self.setup (trace_of text))
