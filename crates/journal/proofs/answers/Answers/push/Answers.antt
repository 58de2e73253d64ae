use Rattle.std.proofs.Common.{◌<◌, ◌≤◌, ◌+◌, length, take, arith}
use Rattle.std.proofs.lemmas.List.{take_more_set}
use Rattle.std.proofs.lemmas.Grind.{common_steps}
use Rattle.journal.specs.declared.answers.Answer.{Answer}
use Rattle.journal.specs.Rising.{IsAboveLast}
use Rattle.journal.specs.Boards.{answer_boards}
use Rattle.journal.proofs.Rising.{rising-map-push}
use Rattle.journal.proofs.answers.Answers.push.Goals as goal

pub invariant_of-self : goal.invariant_of-self
invariant_of-self c =
    let items = c.self.inside.items in
    let len = c.self.inside.len in
    let within : len < length items = grind (arith, common_steps) in
    let room : len + 1 ≤ 15 = grind (arith, common_steps) in
    let above : IsAboveLast (answer_boards (take len items)) c.args.item.board = rw c.self.view_is c.requires.above in (
      room,
      rw (take_more_set items len c.args.item within)
          (rising-map-push (λ (a : Answer). a.board) (take len items) c.args.item c.self.invariant.1 above),
    )
