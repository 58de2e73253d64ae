use Rattle.std.proofs.Common.{◌≡◌, sym, ap, ◌∙◌, arith}
use Rattle.trace_text.specs.Reading.{last_of}
use Rattle.trace_text.proofs.Lasts.{above_last, last-push}
use Rattle.trace_text.proofs.places.add.Goals as goal

pub push-requires-clause-above : goal.push-requires-clause-above
push-requires-clause-above c = above_last c.args.places.now c.in-Some.next (omega (arith, c.next.view_is, c.requires))

pub returns-clause-last : goal.returns-clause-last
returns-clause-last c =
    let place : c.next.inside.0 ≡ c.in-Some.next = c.next.view_is in
    place ∙ (sym (last-push c.args.places.now c.in-Some.next) ∙ ap last_of (sym c.push.ensures))
