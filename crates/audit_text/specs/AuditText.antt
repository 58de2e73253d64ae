-- The text of an audit: the line of each event, and a line that tells what was found.
use Rattle.std.specs.Prelude.{ℕ, List, [], ◌∷◌, ◌++◌, Option, Some, None, length, codes, decimal}
use Rattle.fb_text.specs.Written.{line_bytes}
use Rattle.run_text.specs.RunText.{events_text}
use Rattle.audit.specs.declared.finding.Harm.{Harm}
use Rattle.audit.specs.declared.finding.Harm.TheVariants.{Reply, Owners, Shared, Words, Memory}
use Rattle.audit.specs.declared.finding.Finding.{Finding}
use Rattle.audit.specs.First.{Audit}

-- The word of a harm.
abbrev pub harm_word : Harm → List ℕ
harm_word Reply = codes "reply"
harm_word Owners = codes "owners"
harm_word Shared = codes "shared"
harm_word Words = codes "words"
harm_word Memory = codes "memory"

-- The words of a finding: the number of the event, the harm and its line.
abbrev pub finding_words : Finding → List (List ℕ)
finding_words finding =
    codes "unsound" ∷ decimal finding.event ∷ harm_word finding.harm ∷ decimal finding.line ∷ []

-- The words that tell what was found in so many events, or that they are sound.
abbrev pub verdict_words : ℕ → Option Finding → List (List ℕ)
verdict_words events None = codes "sound" ∷ decimal events ∷ []
verdict_words events (Some finding) = finding_words finding

-- The line of what an audit found.
abbrev pub verdict : Audit → List ℕ
verdict audit = line_bytes (verdict_words (length audit.journal) audit.finding)

-- The text of an audit.
abbrev pub audit_text : Audit → List ℕ
audit_text audit = events_text audit.journal ++ verdict audit
