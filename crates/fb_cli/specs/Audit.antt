-- `audit`: turns of any tables, accepted or not, up to the first harm. `exhibit`: the same of a
-- setup that does harm.
use Rattle.std.specs.Prelude.{◌≡◌, ℕ, List, [], ◌∷◌, length, Option, None, Some}
use Rattle.setup_text.specs.Reading.{schedule_at}
use Rattle.audit.specs.declared.finding.Finding.{Finding}
use Rattle.audit.specs.First.{Audit, audited}
use Rattle.audit.specs.Exhibits.{exhibit_of, setup_of, steps_of}
use Rattle.audit.specs.Exhibits as exhibits
use Rattle.audit_text.specs.AuditText.{audit_text}
use Rattle.fb_cli.specs.Command.{setup_at, Role, Setup, Output, with_file, Command, AreSetup, on_files, setup_file, file_on}
use Rattle.fb_cli.specs.Run.{AreTurns, turns_of}

-- A text with status 9, where something was found.
abbrev pub if_found : List ℕ → Option Finding → Option Output
if_found text None = None
if_found text (Some finding) = Some (record { status = 9; text = text })

-- The refusal of an audit: its whole text, where an event does harm.
abbrev pub harm_refusal : Audit → Option Output
harm_refusal audit = if_found (audit_text audit) audit.finding

-- The refusal of the audit of a setup by a schedule of these bytes.
abbrev pub audit_refusal : Setup → List ℕ → Option Output
audit_refusal setup bytes =
    with_file Role.Schedule (schedule_at (length setup.boards)) bytes
    (λ turns. harm_refusal (audited setup turns))

-- The command on files of these names. The schedule is opened where the setup is one.
abbrev pub audit : (setup schedule : List ℕ) → Command
audit setup schedule =
    on_files (setup_file ∷ file_on Role.Schedule setup (λ s. Unit {0}) ∷ [])
    (λ bytes_of.
    with_file Role.Setup setup_at (bytes_of setup) (λ s. audit_refusal s (bytes_of schedule)))
    (λ bytes_of text.
    (s : Setup) × AreSetup s (bytes_of setup)
    × ((turns : List ℕ) × AreTurns s turns (bytes_of schedule)
    × (text ≡ audit_text (audited s turns))))

-- The audit of a setup by the seeded schedule of a number.
abbrev pub seeded_audit : ℕ → Setup → Audit
seeded_audit seed setup = audited setup (turns_of seed setup)

-- The command on a file and a number.
abbrev pub audit_seeded : (setup : List ℕ) → (seed : ℕ) → Command
audit_seeded setup seed =
    on_files (setup_file ∷ [])
    (λ bytes_of.
    with_file Role.Setup setup_at (bytes_of setup) (λ s. harm_refusal (seeded_audit seed s)))
    (λ bytes_of text.
    (s : Setup) × AreSetup s (bytes_of setup) × (text ≡ audit_text (seeded_audit seed s)))

-- The audit of the exhibit of a number, from 1.
abbrev pub exhibited : ℕ → Audit
exhibited number =
    audited (setup_of (exhibit_of number)) (exhibits.turns_of (steps_of (exhibit_of number)))

-- The command on a number of an exhibit. It opens no file.
abbrev pub exhibit : (number : ℕ) → Command
exhibit number =
    on_files []
    (λ bytes_of. harm_refusal (exhibited number))
    (λ bytes_of text. text ≡ audit_text (exhibited number))
