-- Counts over the run of a generated setup.
use Rattle.std.proofs.Common.{◌≡◌, ℕ, List, [], ◌++◌, length, ap, ◌∙◌}
use Rattle.bus_model.specs.Setup.{Setup, access_count}
use Rattle.bus_model.specs.Events.{Event}
use Rattle.bus_model.specs.Entries.{entries}
use Rattle.bus_model.specs.Turns.{played}
use Rattle.backplane.specs.Machine.{Machine, opened}
use Rattle.generator.specs.Generated.{generated}
use Rattle.generator.specs.Schedule.{seeded_turns}
use Rattle.tally.specs.Tally.{tally_text}
use Rattle.fb_cli.specs.Run.{turns_of}
use Rattle.fb_cli.specs.Fileless.{counts_of}
use Rattle.fb_cli.specs.Output.{Output}

-- The journal of a machine of the generated setup, after the seeded schedule was played on it.
journal_is : (seed : ℕ) (setup : Setup) (first last : Machine) (accesses : ℕ) (journal : List Event)
    → setup ≡ generated seed → first ≡ opened setup → accesses ≡ access_count setup
    → last
    ≡ record {
      setup = first.setup;
      journal = played first.setup (seeded_turns seed (length first.setup.boards) accesses);
    }
    → journal ≡ last.journal → journal ≡ played (generated seed) (turns_of seed (generated seed))
journal_is seed setup first last accesses journal made start counted turned same =
    same
    ∙ ap (λ (m : Machine). m.journal) turned
    ∙ ap (λ (m : Machine). played m.setup (seeded_turns seed (length m.setup.boards) accesses)) start
    ∙ ap (λ (n : ℕ). played setup (seeded_turns seed (length setup.boards) n)) counted
    ∙ ap (λ (s : Setup). played s (seeded_turns seed (length s.boards) (access_count s))) made

-- A text that is printed with status 0.
abbrev pub done : List ℕ → Output
done text = record { status = 0; text = text }

pub counted_output :
    (seed : ℕ) (setup : Setup) (first last : Machine) (accesses : ℕ) (journal : List Event) (before bytes : List ℕ)
    → setup ≡ generated seed → first ≡ opened setup → accesses ≡ access_count setup
    → last
    ≡ record {
      setup = first.setup;
      journal = played first.setup (seeded_turns seed (length first.setup.boards) accesses);
    }
    → journal ≡ last.journal → before ≡ [] → bytes ≡ before ++ tally_text seed journal (entries journal)
    → done bytes ≡ done (counts_of seed)
counted_output seed setup first last accesses journal before bytes made start counted turned same empty written =
    let text =
    written
    ∙ ap (λ (b : List ℕ). b ++ tally_text seed journal (entries journal)) empty
    ∙ ap (λ (j : List Event). tally_text seed j (entries j))
    (journal_is seed setup first last accesses journal made start counted turned same) in
    λ i. record { status = 0; text = text i }
