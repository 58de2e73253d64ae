use Rattle.std.proofs.Common.{◌≡◌, ◌⊎◌, ◌<◌, ◌^◌, Bool, true, false, List, All, sym, ap, ◌∙◌, subst, length, refl}
use Rattle.bus_model.specs.Setup.{Setup}
use Rattle.bus_model.specs.Runs.{Complete}
use Rattle.backplane.specs.Machine.{Machine, configuration}
use Rattle.ruled_turn.specs.Entries.{GoesOn}
use Rattle.ruled_turn.specs.Seats.{turns}
use Rattle.race_run.specs.Histories.{made}
use Rattle.race_run.specs.Workers.{Seat, IsThrough}
use Rattle.race_run.proofs.Ends.{further, goes_on_from, is_finished}
use Rattle.race_run.proofs.Turning.{are_steps}
use Rattle.race_run.proofs.run.race.Goals as goal

pub returns-clause-journal : goal.returns-clause-journal
returns-clause-journal g c =
    let closed = c.close-machine.result in
    further c.args.machine.journal closed.journal c.ended-machine.result.journal
    (goes_on_from c.args.machine.journal closed.journal
    (subst (λ (m : Machine). GoesOn (made m.journal) (made closed.journal)) c.in_ok-shared.ensures.given
    c.close-machine.ensures.journal))
    c.ended-machine.ensures.journal

pub returns-clause-finished : goal.returns-clause-finished
returns-clause-finished g c = go c.is_any_spent-spent.result refl
  where
    go :
        (spent : Bool) → c.is_any_spent-spent.result ≡ spent
        → Complete c.ended-machine.result.setup (configuration c.ended-machine.result)
    go true e = c.ended-machine.ensures.spent e
    go false e =
        let closed = c.close-machine.result in
        let dealt = c.in_ok-shared.seats.items in
        let worked = c.work_each.new.seats.items in
        subst (λ (m : Machine). Complete m.setup (configuration m)) (sym (c.ended-machine.ensures.unspent e))
        (is_finished closed dealt worked (record {
          well = c.close-machine.ensures.well;
          sound = c.close-machine.ensures.sound;
          count =
              c.in_ok-shared.ensures.seats.1
              ∙ sym (ap (λ (s : Setup). length s.boards)
              (c.close-machine.ensures.setup ∙ ap (λ (m : Machine). m.setup) c.in_ok-shared.ensures.given));
          numbered = c.in_ok-shared.ensures.numbered;
          same = c.work_each.ensures.length;
          follows = c.work_each.ensures.later;
          known = c.close-machine.ensures.seen;
          ended =
              subst (λ (s : Setup). All (λ (t : Seat). IsThrough s t ⊎ (turns t ≡ 2 ^ 40)) worked)
              (sym c.close-machine.ensures.setup) c.work_each.ensures.worked;
          few =
              subst (λ (ts : List Seat). All (λ (t : Seat). turns t < 2 ^ 40) ts) c.as_slice.ensures.value
              (c.is_any_spent-spent.ensures e);
        }))

pub returns-clause-steps : goal.returns-clause-steps
returns-clause-steps g c =
    let last = c.ended-machine.result in
    let told = c.journal-journal.ensures in
    are_steps last.setup last.journal told.setup told.accepted told.run
