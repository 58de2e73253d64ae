-- What a finding means, in the words of coherence: the laws of the first harm.
use Rattle.std.specs.Prelude.{◌≡◌, ℕ, suc, ◌<◌, List, [], ◌∷◌, ◌++◌, Option, Some, None, length}
use Rattle.bus_model.specs.Setup.{Setup}
use Rattle.bus_model.specs.Events.{Event, Done}
use Rattle.bus_model.specs.Configuration.{opening}
use Rattle.bus_model.specs.Coherence.{Coherent}
use Rattle.bus_model.specs.Entries.{Entry, entries, owed_reply}
use Rattle.audit.specs.declared.finding.Finding.{Finding}
use Rattle.audit.specs.Steps.{after_any_all}
use Rattle.audit.specs.Harms.{done_in}
use Rattle.audit.specs.First.{first_harm}

-- The access that was completed, if one was, has the reply that it is owed after this history: that
-- of a read is the latest word.
abbrev pub HasOwedReply : List ℕ → List Entry → Option Done → Type 0
HasOwedReply memory history None = Unit {0}
HasOwedReply memory history (Some done) = done.reply ≡ owed_reply memory history done.access

-- An event after these does no harm: its reply is the one that is owed, and after it each line is
-- coherent.
pub record DoesNoHarm (setup : Setup) (before : List Event) (event : Event) : Type 0 where
  pub reply : HasOwedReply setup.memory (entries before) (done_in event)
  pub coherent :
      Coherent setup (before ++ event ∷ [])
      (after_any_all setup (opening setup) (before ++ event ∷ []))

-- Where nothing is found no event does harm.
abbrev pub SoundnessIsTold : Type 0
SoundnessIsTold =
    (setup : Setup) (events before later : List Event) (event : Event)
    → first_harm setup events ≡ None → events ≡ before ++ event ∷ later
    → DoesNoHarm setup before event

-- The event that is found does harm, and no event before it does.
pub record IsFirstHarm (setup : Setup) (before : List Event) (event : Event) (found : ℕ) : Type 0
  where
    pub before_it : suc (length before) < found → DoesNoHarm setup before event
    pub at_it : suc (length before) ≡ found → DoesNoHarm setup before event → ⊥

abbrev pub FindingsAreFirst : Type 0
FindingsAreFirst =
    (setup : Setup) (events before later : List Event) (event : Event) (finding : Finding)
    → first_harm setup events ≡ Some finding → events ≡ before ++ event ∷ later
    → IsFirstHarm setup before event finding.event
