-- How a board of a protocol answers, read from the row of the event.
use Rattle.std.specs.Prelude.{Bool, true, not, ◌&&◌, ◌||◌, if◌then◌else◌, Option, Some, None}
use Rattle.bus_signals.specs.declared.BusEvent.{BusEvent}
use Rattle.bus_signals.specs.Meanings.{keeps_copy, takes_ownership, invalidates, broadcasts, fills_row, writes_plain_word, serves_owner}
use Rattle.moesi_state.specs.declared.State.{State}
use Rattle.moesi_state.specs.declared.State.TheVariants.{O, S, I}
use Rattle.moesi_state.specs.States.{owns, is_alone, holds}
use Rattle.class_relation.specs.declared.SnoopAction.{SnoopAction}
use Rattle.class_relation.specs.Actions.{answer}
use Rattle.table_library.specs.declared.kinds.Kind.{Kind}
use Rattle.table_library.specs.declared.kinds.Kind.TheVariants.{Invalidate, Update, Through, ThroughBroadcast, Exclusive, Uncached}
use Rattle.table_library.specs.Fitting.{is_asked}

-- Whether a board of a protocol can be in a state: a copy-back board in all, a write-through board
-- in those that neither own the line nor are alone with it, and an uncached board in I.
abbrev pub has_state : Kind → State → Bool
has_state Invalidate state = true
has_state Update state = true
has_state Exclusive state = true
has_state Through state = not (owns state || is_alone state)
has_state ThroughBroadcast state = not (owns state || is_alone state)
has_state Uncached state = not (holds state)

-- Whether a board that does not own the line gives up its copy at this event: at a plain word, and
-- in the exclusive protocol at a read for a copy.
abbrev pub gives_up : Kind → BusEvent → Bool
gives_up Invalidate event = writes_plain_word event
gives_up Update event = writes_plain_word event
gives_up Through event = writes_plain_word event
gives_up ThroughBroadcast event = writes_plain_word event
gives_up Uncached event = writes_plain_word event
gives_up Exclusive event = writes_plain_word event || fills_row event

-- The state that an owner goes to: it no longer owns the line where the master takes it, and is
-- no longer alone with it where the master keeps a copy.
abbrev pub owner_next : State → BusEvent → State
owner_next state event =
    if takes_ownership event then S else (if keeps_copy event then O else state)

-- The state that a holder without ownership of the line goes to.
abbrev pub sharer_next : Kind → State → BusEvent → State
sharer_next kind state event =
    if gives_up kind event then I else (if keeps_copy event then S else state)

-- The state that a holder goes to.
abbrev pub next_state : Kind → State → BusEvent → State
next_state kind state event =
    if invalidates event then I
    else (if owns state then owner_next state event else sharer_next kind state event)

-- The answer of a holder that goes from this state to this one: CH where it and the master keep
-- copies, DI where an owner serves, and SL where it keeps a copy and the word is broadcast.
abbrev pub answer_to : State → State → BusEvent → SnoopAction
answer_to state next event =
    answer next (keeps_copy event && holds next) (owns state && serves_owner event)
    (broadcasts event && holds next)

-- The answer of a board of a protocol, where it can be asked.
abbrev pub rule_answer : Kind → State → BusEvent → Option SnoopAction
rule_answer kind state event =
    if has_state kind state && is_asked state event
    then Some (answer_to state (next_state kind state event) event)
    else None
