use Rattle.std.proofs.Common.{ℕ, ◌<◌, ◌≤◌, ◌+◌, length, take, arith}
use Rattle.std.proofs.lemmas.List.{take_more_set}
use Rattle.std.proofs.lemmas.Grind.{common_steps}
use Rattle.moesi_state.specs.declared.State.{State}
use Rattle.journal.specs.Rising.{IsAboveRest}
use Rattle.journal.specs.Boards.{state_boards}
use Rattle.journal.proofs.Rising.{rises-map-push}
use Rattle.journal.proofs.states.States.push.Goals as goal

pub invariant_of-self : goal.invariant_of-self
invariant_of-self c =
    let items = c.self.inside.items in
    let len = c.self.inside.len in
    let within : len < length items = grind (arith, common_steps) in
    let room : len + 1 ≤ 16 = grind (arith, common_steps) in
    let above : IsAboveRest (state_boards (take len items)) c.args.item.0 = rw c.self.view_is c.requires.above in (
      room,
      rw (take_more_set items len c.args.item within)
          (rises-map-push (λ (s : ℕ × State). s.0) (take len items) c.args.item c.self.invariant.1 above),
    )
