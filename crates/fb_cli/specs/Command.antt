-- What a command is, and what a call that does it may answer.
use Rattle.std.specs.Io.KnownBytes.{Appends}
use Rattle.fb_edge.specs.Outside.{AppendsFront}
use Rattle.std.specs.Prelude.{◌≡◌, ◌⊎◌, ℕ, ◌≤◌, List, [], ◌∷◌, length, Option, None, Some, IfSome, Ok}
pub use Rattle.fb_text.specs.Unread.{unread}
pub use Rattle.setup_text.specs.Reading.{setup_at}
pub use Rattle.fb_cli.specs.Output.{Output, Outcome, Files, Role, Refusal, Setup, is_accepted, limit_of, output, status_of, refusal_output, fault_output, within, on_read, with_file, if_accepted, with_accepted}

-- A file that a command opens: its role, which sets its limit, and what has to hold of the files
-- that were read before it.
pub record File : Type 1 where
  pub role : Role
  pub after : Files → Type 0

-- A command: the files that it opens, in their order; its refusal on the bytes of the files, or
-- none; what holds of the text that it prints where it is not refused; and what holds of the text
-- that it prints for the text of a refusal.
pub record Command : Type 1 where
  pub opens : List File
  pub refusal : Files → Option Output
  pub prints : Files → List ℕ → Type 0
  pub tells : List ℕ → List ℕ → Type 0

-- The text of a refusal as it is.
abbrev pub alone : List ℕ → List ℕ → Type 0
alone refusal text = text ≡ refusal

-- The setup, which is opened first.
abbrev pub setup_file : File
setup_file = record { role = Role.Setup; after = λ bytes_of. Unit {0} }

-- These bytes are within the limit of a setup, and are this setup.
abbrev pub AreSetup : Setup → List ℕ → Type 0
AreSetup setup bytes = (length bytes ≤ limit_of Role.Setup) × (setup_at (unread bytes) ≡ Ok setup)

-- A file that is opened where the file of this name is a setup of which this holds.
abbrev pub file_on : Role → (setup : List ℕ) → (Setup → Type 0) → File
file_on role setup Fits =
    record { role = role; after = λ bytes_of. (s : Setup) × AreSetup s (bytes_of setup) × Fits s }

-- A command that prints its refusals as they are.
abbrev pub on_files : List File → (Files → Option Output) → (Files → List ℕ → Type 0) → Command
on_files opens refusal prints =
    record { opens = opens; refusal = refusal; prints = prints; tells = alone }

-- A command that opens no file, is never refused, and prints this.
abbrev pub printing : List ℕ → Command
printing wanted = on_files [] (λ bytes_of. None) (λ bytes_of text. text ≡ wanted)

-- An output that tells a refusal.
abbrev pub IsTold : (List ℕ → List ℕ → Type 0) → Output → Output → Type 0
IsTold Tells refusal o = (o.status ≡ refusal.status) × Tells refusal.text o.text

-- An output with status 0 and such a text, or one that tells the refusal.
abbrev pub Follows :
    (List ℕ → List ℕ → Type 0) → (List ℕ → Type 0) → Option Output → Output → Type 0
Follows Tells Prints None o = (o.status ≡ 0) × Prints o.text
Follows Tells Prints (Some refusal) o = IsTold Tells refusal o

-- The files, as far as they are known. To a command that opens none, all that it needs is known.
abbrev pub known : List File → Option Files → Option Files
known [] files = Some (λ name. [])
known (file ∷ more) files = files

-- It is an answer of the command, as far as the files are known, with the status of an outcome.
abbrev pub Asked : Command → Option Files → Output → Type 0
Asked command files o =
    ((outcome : Outcome) × (o.status ≡ status_of outcome))
    × IfSome (known command.opens files)
    (λ bytes_of. Follows command.tells (command.prints bytes_of) (command.refusal bytes_of) o)

-- The file in this role was not read: it is one of these, what has to hold before it is opened
-- holds, as far as the files are known, and the shelf failed.
abbrev pub IsUnread : List File → Option Files → Type 0 → Role → Type 0
IsUnread [] files shelf_rose role = ⊥
IsUnread (file ∷ more) files shelf_rose role =
    ((role ≡ file.role) × IfSome files file.after × shelf_rose)
    ⊎ IsUnread more files shelf_rose role

-- An output of a command: it is an answer, or tells that a file was not read, or that memory ran
-- out.
abbrev pub Ends : Command → Option Files → Type 0 → Output → Type 0
Ends command files shelf_rose o =
    Asked command files o
    ⊎ (((role : Role) × IsUnread command.opens files shelf_rose role
    × IsTold command.tells (refusal_output (Refusal.Unread role)) o)
    ⊎ (o ≡ refusal_output Refusal.NoMemory))

-- The command that words ask for, if they match a row, and else how they are refused.
pub data Found : Type 1 where
  none : (List ℕ → List ℕ → Type 0) → Found
  found : Command → Found

-- An output of what words ask for. Words that match no row are refused, whatever the files.
abbrev pub EndsAs : Found → Option Files → Type 0 → Output → Type 0
EndsAs (none Tells) files shelf_rose o = IsTold Tells (refusal_output Refusal.NoRow) o
EndsAs (found command) files shelf_rose o = Ends command files shelf_rose o

-- The text was taken whole and the status answered, or a write failed and 5 was answered. `before`
-- and `after` are what the sink took.
abbrev pub Written : Output → Type 0 → Option (List ℕ) → Option (List ℕ) → ℕ → Type 0
Written o sink_rose before after status =
    ((status ≡ o.status) × Appends before after o.text)
    ⊎ ((status ≡ 5) × sink_rose × AppendsFront before after o.text)

-- How a call ends that does what words ask for: an output of it is written.
abbrev pub Does :
    Found → Option Files → Type 0 → Type 0 → Option (List ℕ) → Option (List ℕ) → ℕ → Type 0
Does asked files shelf_rose sink_rose before after status =
    (o : Output) × EndsAs asked files shelf_rose o × Written o sink_rose before after status
