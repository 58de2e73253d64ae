-- What the steps of a command come to: what was read, or the reply with which the command stops.
use Rattle.std.specs.Prelude.{◌≡◌, ℕ, List, ◌++◌, Option, Some, None, IfSome, Result, Ok, Err}
use Rattle.backplane.specs.Machine.{configuration}
use Rattle.setup_text.specs.declared.fault.SetupFault.{SetupFault}
use Rattle.fb_cli.specs.declared.answers.Answer.{Answer}
use Rattle.fb_cli.specs.declared.answers.Reply.{Reply}
use Rattle.fb_cli.specs.Told.{Told}
use Rattle.audit.specs.declared.finding.Finding.{Finding}
use Rattle.run_text.specs.RunText.{events_text}
use Rattle.fb_cli.specs.Command.{Output, Outcome, Files, Role, Refusal, refusal_output, status_of, fault_output, Command, Found, none, found, Ends, EndsAs, IsUnread, known}
use Rattle.fb_cli.specs.Replay.{run_text, ending}

-- The outcome of an audit with this finding.
abbrev pub outcome_of : Option Finding → Outcome
outcome_of None = Outcome.Done
outcome_of (Some finding) = Outcome.Harmful

-- The output of an audit: the lines of its events, and what is printed after them.
abbrev pub told_output : Told → Output
told_output told = record {
  status = status_of (outcome_of told.audit.finding);
  text = events_text told.audit.journal ++ told.last.bytes;
}

-- The output of an answer: what it says, the run of its machine, the ending of that run, or an
-- audit.
abbrev pub answer_output : Answer → Output
answer_output (Answer.Said outcome text) = record { status = status_of outcome; text = text.bytes }
answer_output (Answer.Ran machine room) =
    record { status = 0; text = run_text machine.setup machine.journal (configuration machine) }
answer_output (Answer.Replayed machine room) =
    record { status = 0; text = ending machine.setup machine.journal (configuration machine) }
answer_output (Answer.Audited told) = told_output told

-- What is printed of a reply.
abbrev pub reply_output : Reply → Output
reply_output (Reply.Answered answer) = answer_output answer
reply_output (Reply.Refused refusal) = refusal_output refusal
reply_output (Reply.Explained refusal text) =
    record { status = (refusal_output refusal).status; text = text.bytes }

-- What a command, or what words ask for, comes to before it is printed.
abbrev pub Comes : Command → Option Files → Type 0 → Reply → Type 0
Comes command files shelf_rose reply = Ends command files shelf_rose (reply_output reply)

abbrev pub ComesTo : Found → Option Files → Type 0 → Reply → Type 0
ComesTo asked files shelf_rose reply = EndsAs asked files shelf_rose (reply_output reply)

-- A reply is an answer of this kind, or it tells of a file in such a role that was not read, or
-- that memory ran out.
abbrev pub Gives : (Output → Type 0) → (Role → Type 0) → Reply → Type 0
Gives Wanted Failed (Reply.Answered answer) = Wanted (answer_output answer)
Gives Wanted Failed (Reply.Refused Refusal.NoRow) = ⊥
Gives Wanted Failed (Reply.Refused (Refusal.Unread role)) = Failed role
Gives Wanted Failed (Reply.Refused Refusal.NoMemory) = Unit {0}
Gives Wanted Failed (Reply.Explained refusal text) = ⊥

-- A reply with which a command stops before it is done: its refusal, as far as the files are known,
-- or that a file was not read, or want of memory.
abbrev pub Stops : Command → Option Files → Type 0 → Reply → Type 0
Stops command files shelf_rose =
    Gives (λ o. IfSome (known command.opens files) (λ bytes_of. command.refusal bytes_of ≡ Some o))
    (IsUnread command.opens files shelf_rose)

-- Nothing stands against a command, as far as the files are known, or it stops with a reply.
abbrev pub Ready : {X : Type 0} → Command → Option Files → Type 0 → Result X Reply → Type 0
Ready command files shelf_rose (Ok x) =
    IfSome (known command.opens files) (λ bytes_of. command.refusal bytes_of ≡ None)
Ready command files shelf_rose (Err reply) = Stops command files shelf_rose reply

-- The same of what words ask for.
abbrev pub IsReady : {X : Type 0} → Found → Option Files → Type 0 → Result X Reply → Type 0
IsReady (none Tells) files shelf_rose result = result ≡ Err (Reply.Refused Refusal.NoRow)
IsReady (found command) files shelf_rose result = Ready command files shelf_rose result

-- What stands against a command, when what was made ready for it was let go.
abbrev pub let_go : {X : Type 0} → Result X Reply → Result (Unit {0}) Reply
let_go (Ok x) = Ok tt
let_go (Err reply) = Err reply

-- The output tells of this fault.
abbrev pub TellsFault : Role → SetupFault → Output → Type 0
TellsFault role (SetupFault.Bad line kind) o =
    o ≡ fault_output role (record { line = line; kind = kind })
TellsFault role SetupFault.NoMemory o = ⊥

-- A reply with which a command stops at a file: it is the output that the bytes ask for, whatever
-- is wanted of what would be read of them; or the file in this role was not read.
abbrev pub StopsAt :
    {W : Type 0} → Role → Option Files → (name : List ℕ) → Type 0
    → (List ℕ → W → Option Output) → Reply → Type 0
StopsAt {W} role files name shelf_rose asks =
    Gives (λ o. IfSome files (λ bytes_of. (rest : W) → asks (bytes_of name) rest ≡ Some o))
    (λ other. (other ≡ role) × shelf_rose)
