-- The result of a trace on something that takes events: `step` says what each event leads to, if
-- it is a step.
use Rattle.std.specs.Prelude.{ℕ, ◌+◌, nat_le, List, [], ◌∷◌, ◌++◌, length, Option, Some, None, Result, Err, if◌then◌else◌}
use Rattle.journal.specs.declared.event.Event.{Event}
use Rattle.replayer.specs.declared.fault.ReplayFault.{ReplayFault}
use Rattle.replayer.specs.declared.fault.ReplayFault.TheVariants.{Spelling, NotARun}
use Rattle.replayer.specs.Lines.{Line, lines_of, trace_of, is_end_word, event_in, event_of}

-- A step leads on. Any other event is a fault of its line.
abbrev pub by_step : {M A : Type 0} → (ReplayFault → A) → (M → A) → ℕ → Option M → A
by_step refuse go number None = refuse (NotARun number)
by_step refuse go number (Some next) = go next

-- An event that is a step leads on. A line that no event spells is a fault.
abbrev pub by_event :
    {M A : Type 0} → (M → Event → Option M) → M → (ReplayFault → A) → (M → A) → ℕ → Option Event → A
by_event step m refuse go number None = refuse (Spelling number)
by_event step m refuse go number (Some event) = by_step refuse go number (step m event)

-- The result of these lines, the first of which has this number: where all are steps, what `close`
-- says of the end, and otherwise the fault of the first line that is no step.
abbrev pub outcome :
    {M : Type 0} → (M → Event → Option M) → (M → Result M ReplayFault) → M → ℕ → List Line
    → Result M ReplayFault
outcome step close m number [] = close m
outcome step close m number (line ∷ lines) =
    by_event step m Err (λ next. outcome step close next (number + 1) lines) number (event_of line)

-- What a trace comes to.
abbrev pub replayed :
    {M : Type 0} → (M → Event → Option M) → (M → Result M ReplayFault) → M → List ℕ
    → Result M ReplayFault
replayed step close m text = outcome step close m 1 (trace_of text)

-- Where a text leaves its reader: reading a line of this number with these bytes so far, after the
-- line `end`, or at a fault.
pub data Place (M : Type 0) : Type 0 where
  reading : (m : M) (number : ℕ) (unfinished : List ℕ) → Place M
  ended : (m : M) → Place M
  refused : (fault : ReplayFault) → Place M

-- The most bytes of a line that may still become an event.
abbrev pub longest : ℕ
longest = 256

-- After a line with its line feed.
abbrev pub at_closed :
    {M : Type 0} → (M → Event → Option M) → M → ℕ → List ℕ → (M → Place M) → Place M
at_closed step m number bytes go =
    if is_end_word bytes then ended m else by_event step m refused go number (event_in bytes)

-- Within a line: too many bytes are a fault at once.
abbrev pub at_open : {M : Type 0} → M → ℕ → List ℕ → Place M
at_open m number bytes =
    if nat_le (length bytes) longest then reading m number bytes else refused (Spelling number)

-- Where these lines, the first of which has this number, leave their reader.
abbrev pub follow : {M : Type 0} → (M → Event → Option M) → M → ℕ → List Line → Place M
follow step m number [] = reading m number []
follow step m number (line ∷ lines) =
    if line.closed
    then at_closed step m number line.bytes (λ next. follow step next (number + 1) lines)
    else at_open m number line.bytes

-- Where a text leaves its reader.
abbrev pub left_by : {M : Type 0} → (M → Event → Option M) → M → List ℕ → Place M
left_by step m text = follow step m 1 (lines_of text)

-- Where a piece leaves the reader of the text before it.
abbrev pub fed : {M : Type 0} → (M → Event → Option M) → Place M → List ℕ → Place M
fed step (reading m number unfinished) piece = follow step m number (lines_of (unfinished ++ piece))
fed step (ended m) piece = ended m
fed step (refused fault) piece = refused fault

-- The result of a text that ends here.
abbrev pub ending : {M : Type 0} → (M → Result M ReplayFault) → Place M → Result M ReplayFault
ending close (reading m number []) = close m
ending close (reading m number (b ∷ bs)) = Err (Spelling number)
ending close (ended m) = close m
ending close (refused fault) = Err fault
