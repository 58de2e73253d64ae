-- The auditor's state, and the audit that it stands for.
use Rattle.std.specs.Prelude.{◌≡◌, ℕ, List, Option, length}
use Rattle.flat_memory.specs.Flats.{IsLatest}
use Rattle.bus_model.specs.Setup.{Setup, WellFormed}
use Rattle.bus_model.specs.Events.{Event}
use Rattle.bus_model.specs.Configuration.{Configuration, opening}
use Rattle.bus_model.specs.Entries.{entries}
use Rattle.audit.specs.declared.auditing.Auditor.{Auditor}
use Rattle.audit.specs.declared.finding.Finding.{Finding}
use Rattle.audit.specs.Steps.{after_any_all}
use Rattle.audit.specs.Turns.{events_of_any}
use Rattle.audit.specs.First.{Audit, first_harm}
use Rattle.audit.specs.Parts.{shown}

-- The audit so far.
abbrev pub audit_so_far : Auditor → Audit
audit_so_far a = record { setup = a.setup; journal = a.journal.items; finding = a.finding }

-- What the auditor keeps: the setup is within its limits, the journal is what turns of some boards came to, the configuration is the
-- one to which it led, the flat words are the latest, and the finding is the first harm of the
-- journal.
pub record StandsFor (setup : Setup) (journal : List Event) (c : Configuration) (flat : List ℕ)
    (finding : Option Finding) : Type 0 where
  pub well : WellFormed setup
  pub boards : List ℕ
  pub made : journal ≡ events_of_any setup (opening setup) boards
  pub parts : c ≡ after_any_all setup (opening setup) journal
  pub latest : IsLatest flat setup.memory (entries journal)
  pub long : length flat ≡ length setup.memory
  pub first : finding ≡ first_harm setup journal

-- The state of the auditor.
abbrev pub Stands : Auditor → Type 0
Stands a = StandsFor a.setup a.journal.items (shown a.parts) a.flat a.finding
