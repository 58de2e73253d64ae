use Rattle.std.proofs.Common.{◌≡◌, subst}
use Rattle.bus_model.specs.Turns.{Did}
use Rattle.audit.specs.Parts.{shown}
use Rattle.audit.specs.Turns.{any_turn}
use Rattle.audit.proofs.Growing.{turn_of_event}
use Rattle.audit.proofs.Watching.{boards_now}
use Rattle.audit.proofs.auditing.Auditor.take_turn.Goals as goal

pub turn-requires-clause-boards : goal.turn-requires-clause-boards
turn-requires-clause-boards c =
    let s = c.args.self.now in
    boards_now s.setup s.journal.items (shown s.parts) s.flat s.finding c.requires.stands.well c.requires.stands

pub go-requires-clause-turn : goal.go-requires-clause-turn
go-requires-clause-turn c =
    let s = c.args.self.now in (
      c.args.board,
      subst (λ x. any_turn s.setup x c.args.board ≡ Did c.in-Some.event) c.requires.stands.parts
          (turn_of_event _ c.in-Some.event c.in-Some.ensures),
    )
