-- What is spelled is read again.
use Rattle.std.proofs.Common.{◌≡◌, ℕ, Some, refl, arith}
use Rattle.std.specs.Prelude.{decimal}
use Rattle.journal.specs.declared.event.Event.{Event}
use Rattle.journal.specs.declared.event.Event.TheVariants.{Local, Drop, Raise, Grant, Connect, DataPhase}
use Rattle.class_words.proofs.WordLaws.{state_again, bus_event_again, outcome_again}
use Rattle.trace_text.specs.Spelling.{carried_words, event_words}
use Rattle.trace_text.specs.Ranges.{IsLine, InRange}
use Rattle.trace_text.specs.Reading.{number_between, local_at, drop_at, raise_at, grant_at, connect_at, data_at, event_at}
use Rattle.trace_text.proofs.Numbers.{number_between_again, board_again}
use Rattle.trace_text.proofs.Spelled.{source_again}
use Rattle.trace_text.proofs.Whole.{takers_again, answers_at_again, states_at_again, done_at_again, carried_at_again}

line_again : (l : ℕ) → IsLine l → number_between 0 4095 (decimal l) ≡ Some l
line_again l h = number_between_again 0 4095 l (omega arith) (omega arith) h

pub event_again : (e : Event) → InRange e → event_at (event_words e) ≡ Some e
unfolding event_at local_at drop_at raise_at grant_at connect_at data_at
event_again (Local b before after done) h =
    rw (board_again b h.0, state_again before, state_again after, done_at_again done h.1) refl
event_again (Drop b l before) h = rw (board_again b h.0, line_again l h.1, state_again before) refl
event_again (Raise b) h = rw (board_again b h) refl
event_again (Grant by winner lines rounds) h =
    rw (
      board_again by h.0,
      board_again winner h.1,
      number_between_again 1 1023 lines (omega arith) h.2.0 h.2.1,
      number_between_again 0 9 rounds (omega arith) (omega arith) h.3,
    ) refl
event_again (Connect c) h =
    rw (
      board_again c.master h.0,
      bus_event_again c.event,
      line_again c.line h.1,
      outcome_again c.outcome,
      answers_at_again c.answers h.2,
    ) refl
event_again (DataPhase d) h =
    rw (
      board_again d.master h.0,
      bus_event_again d.event,
      line_again d.line h.1,
      source_again d.source h.2,
      takers_again d.takers h.3,
      states_at_again d.master d.states (carried_words d.done) h.0 h.4,
      carried_at_again d.done h.5,
    ) refl
