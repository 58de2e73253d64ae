use Rattle.std.proofs.Common.{◌≡◌, ◌+◌, ◌-◌, false, true, take, sym, ap, ◌∙◌, subst, arith}
use Rattle.std.specs.Prelude.{slice_index_or}
use Rattle.bus_model.specs.Settling.{highest}
use Rattle.arbiter.specs.Contests.{IsContest}
use Rattle.arbiter.specs.Raised.{contenders, marked_numbers, winner_from}
use Rattle.arbiter.proofs.Requesting.{raised_contest, some_compete, highest_wins, won}
use Rattle.arbiter.proofs.requests.Requests.contest.Goals as goal

pub settled-settled-requires-clause-contest : goal.settled-settled-requires-clause-contest
settled-settled-requires-clause-contest c =
    let numbers = c.self.inside.numbers.items in
    let marks = c.contenders-contenders.result in
    let gathered : take c.gather-count.result.1 c.gather-count.result.0 ≡ marked_numbers numbers marks =
    c.gather-count.ensures.numbers ∙ ap (λ ns. marked_numbers ns marks) c.deref.ensures.value in
    let some = some_compete numbers marks c.gather-count.result.1 c.gather-count.result.0 gathered
    c.gather-count.ensures.long c.if-count-eq0.false in
    subst IsContest (sym gathered) (raised_contest numbers marks c.self.invariant some)

pub returns-in_default-clause-none : goal.returns-in_default-clause-none
returns-in_default-clause-none c =
    let numbers = c.self.inside.numbers.items in
    let marks = c.contenders-contenders.result in
    let gathered : take c.gather-count.result.1 c.gather-count.result.0 ≡ marked_numbers numbers marks =
    c.gather-count.ensures.numbers ∙ ap (λ ns. marked_numbers ns marks) c.deref.ensures.value in
    let some = some_compete numbers marks c.gather-count.result.1 c.gather-count.result.0 gathered
    c.gather-count.ensures.long c.if-count-eq0.false in
    let lines : c.settled-settled.result.lines ≡ highest (marked_numbers numbers marks) =
    c.settled-settled.ensures.highest ∙ ap highest gathered in
    absurd (highest_wins numbers marks some
    (sym (ap (winner_from 1 numbers marks) lines)
    ∙ ap (λ ns. winner_from 1 ns marks c.settled-settled.result.lines) (sym c.deref-2.ensures.value)
    ∙ c.in_default.ensures.none))

pub returns-clause-competes : goal.returns-clause-competes
returns-clause-competes c =
    let numbers = c.self.inside.numbers.items in
    let marks = c.contenders-contenders.result in
    let winner = won numbers marks c.settled-settled.result.lines c.in-Some.index
    (ap (λ ns. winner_from 1 ns marks c.settled-settled.result.lines) (sym c.deref-2.ensures.value)
    ∙ c.in-Some.ensures.found) in
    let back : c.in-Some.index + 1 - 1 ≡ c.in-Some.index = omega arith in
    let same = c.contenders-contenders.ensures ∙ sym (ap (λ r. contenders r) c.self.view_is) in
    rw (← c.self.view_is, back)
    (subst (λ ms. slice_index_or ms c.in-Some.index false ≡ true) same winner.competes)

pub returns-clause-highest : goal.returns-clause-highest
returns-clause-highest c =
    let numbers = c.self.inside.numbers.items in
    let marks = c.contenders-contenders.result in
    let gathered : take c.gather-count.result.1 c.gather-count.result.0 ≡ marked_numbers numbers marks =
    c.gather-count.ensures.numbers ∙ ap (λ ns. marked_numbers ns marks) c.deref.ensures.value in
    let lines : c.settled-settled.result.lines ≡ highest (marked_numbers numbers marks) =
    c.settled-settled.ensures.highest ∙ ap highest gathered in
    let winner = won numbers marks c.settled-settled.result.lines c.in-Some.index
    (ap (λ ns. winner_from 1 ns marks c.settled-settled.result.lines) (sym c.deref-2.ensures.value)
    ∙ c.in-Some.ensures.found) in
    let back : c.in-Some.index + 1 - 1 ≡ c.in-Some.index = omega arith in
    let same = c.contenders-contenders.ensures ∙ sym (ap (λ r. contenders r) c.self.view_is) in
    rw (← c.self.view_is, back) (winner.has_number ∙ lines ∙ ap (λ ms. highest (marked_numbers numbers ms)) same)

pub returns-clause-shown : goal.returns-clause-shown
returns-clause-shown c =
    let numbers = c.self.inside.numbers.items in
    let marks = c.contenders-contenders.result in
    let winner = won numbers marks c.settled-settled.result.lines c.in-Some.index
    (ap (λ ns. winner_from 1 ns marks c.settled-settled.result.lines) (sym c.deref-2.ensures.value)
    ∙ c.in-Some.ensures.found) in
    let back : c.in-Some.index + 1 - 1 ≡ c.in-Some.index = omega arith in
    rw (← c.self.view_is, back) (sym winner.has_number)
