-- An audit turn by turn, as the auditor's code makes it.
use Rattle.std.specs.Prelude.{ℕ, List, [], ◌∷◌, ◌++◌, Option, Some, None}
use Rattle.bus_model.specs.Setup.{Setup}
use Rattle.bus_model.specs.Events.{Event}
use Rattle.bus_model.specs.Configuration.{Configuration, opening}
use Rattle.bus_model.specs.Turns.{Turn, Did, Waits, Finished}
use Rattle.audit.specs.declared.finding.Finding.{Finding}
use Rattle.audit.specs.Steps.{after_any_all}
use Rattle.audit.specs.Turns.{any_turn}
use Rattle.audit.specs.First.{Audit, first_harm}

-- The configuration to which the events of an audit have led.
abbrev pub led_to : Audit → Configuration
led_to a = after_any_all a.setup (opening a.setup) a.journal

-- An audit before its first turn.
abbrev pub unbegun : Setup → Audit
unbegun setup = record { setup = setup; journal = []; finding = None }

-- An audit after one more event.
abbrev pub with_event : Audit → Event → Audit
with_event a event = record {
  setup = a.setup;
  journal = a.journal ++ event ∷ [];
  finding = first_harm a.setup (a.journal ++ event ∷ []);
}

-- An audit after a turn that came to this.
abbrev pub after_turn : Audit → Turn → Audit
after_turn a (Did event) = with_event a event
after_turn a (Waits why) = a
after_turn a Finished = a

-- An audit after a turn of a board, unless something was found before.
abbrev pub audit_turn : Audit → ℕ → Option Finding → Audit
audit_turn a board None = after_turn a (any_turn a.setup (led_to a) board)
audit_turn a board (Some finding) = a

-- An audit after turns of these boards.
abbrev pub audit_turns : Audit → List ℕ → Audit
audit_turns a [] = a
audit_turns a (board ∷ boards) = audit_turns (audit_turn a board a.finding) boards
