use Rattle.std.proofs.Common.{sym, ◌∙◌, ap, rules}
use Rattle.std.proofs.lemmas.Result.{err_from_is_err_and}
use Rattle.fb_text.specs.Unread.{Unread}
use Rattle.setup_text.specs.Reading.{places_on, place_in}
use Rattle.setup_text.proofs.LineSteps.{places_step, places_done, places_fail}
use Rattle.setup_text.proofs.schedule.places.Goals as goal

pub returns-in_err-place-clause-value : goal.returns-in_err-place-clause-value
returns-in_err-place-clause-value c =
    let p = err_from_is_err_and c.from_residual.result c.from_residual.ensures.1 in
    let u = c.loop-word.scan in
    let after = c.next_word.ensures.after in
    let line = ap (λ (v : Unread). v.line) after ∙ c.loop-word.invariant.stays.line in
    let step = places_step c.args.boards c.loop-word.turns.items u.words c.in-Some.word.now c.next_word.new.self.words
    c.in-Some.ensures.word (ap (λ (v : Unread). v.words) after) in
    rw (p.1, p.2) (places_fail c.in_err-place.field-0.0 c.next_word.new.self.line c.args.scan.now.line
    (place_in c.args.boards c.in-Some.word.now) _ (places_on c.args.boards c.loop-word.turns.items u.words) _
    line step c.loop-word.invariant.rest c.in_err-place.ensures)

pub loop-word-preserved : goal.loop-word-preserved
loop-word-preserved c =
    let u = c.loop-word.scan in
    let after = c.next_word.ensures.after in
    let step = places_step c.args.boards c.loop-word.turns.items u.words c.in-Some.word.now c.next_word.new.self.words
    c.in-Some.ensures.word (ap (λ (v : Unread). v.words) after) in
    record {
      rest = rw c.in-Ok.ensures.items (sym (rw c.in_ok-place.ensures at step) ∙ c.loop-word.invariant.rest);
      stays = search rules;
    }

pub returns-clause-value : goal.returns-clause-value
returns-clause-value c =
    sym c.loop-word.invariant.rest
    ∙ places_done c.args.boards c.loop-word.turns.items c.loop-word.scan.words c.in_default.ensures.word
