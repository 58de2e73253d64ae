-- `run`: a setup played by a schedule, or by the seeded schedule of a number. `race`: by threads.
use Rattle.std.specs.Prelude.{◌≡◌, ◌≤◌, ℕ, List, [], ◌∷◌, length, Option, None, Ok}
use Rattle.setup_text.specs.Reading.{schedule_at}
use Rattle.bus_model.specs.Setup.{access_count}
use Rattle.generator.specs.Schedule.{seeded_turns}
use Rattle.fb_cli.specs.Command.{unread, setup_at, Role, limit_of, Setup, Output, with_file, if_accepted, with_accepted, Command, on_files, setup_file, file_on}
use Rattle.fb_cli.specs.Headline.{opening, after_all, run_text, IsRunOf}
pub use Rattle.bus_model.specs.Turns.{played}

-- The text of the run of a setup by these turns.
abbrev pub played_text : Setup → List ℕ → List ℕ
played_text setup turns =
    let events = played setup turns in run_text setup events (after_all (opening setup) events)

-- The turns of the seeded schedule of a number.
abbrev pub turns_of : ℕ → Setup → List ℕ
turns_of seed setup = seeded_turns seed (length setup.boards) (access_count setup)

-- The refusal of a setup of these bytes that is to be played.
abbrev pub setup_refusal : List ℕ → Option Output
setup_refusal bytes = with_accepted bytes (λ s. None)

-- These bytes are within the limit of a schedule, and are these turns of a setup.
abbrev pub AreTurns : Setup → List ℕ → List ℕ → Type 0
AreTurns setup turns bytes =
    (length bytes ≤ limit_of Role.Schedule)
    × (schedule_at (length setup.boards) (unread bytes) ≡ Ok turns)

-- The refusal of a schedule of these bytes on a setup, and then of the tables of the setup.
abbrev pub turns_refusal : Setup → List ℕ → Option Output
turns_refusal setup bytes =
    with_file Role.Schedule (schedule_at (length setup.boards)) bytes
    (λ turns. if_accepted setup.tables None)

-- The command on files of these names. The schedule is opened where the setup is one.
abbrev pub run : (setup schedule : List ℕ) → Command
run setup schedule =
    on_files (setup_file ∷ file_on Role.Schedule setup (λ s. Unit {0}) ∷ [])
    (λ bytes_of.
    with_file Role.Setup setup_at (bytes_of setup) (λ s. turns_refusal s (bytes_of schedule)))
    (λ bytes_of text.
    (r : IsRunOf (bytes_of setup) text)
    × ((turns : List ℕ) × AreTurns r.setup turns (bytes_of schedule)
    × (text ≡ played_text r.setup turns)))

-- The command on a file and a number.
abbrev pub run_seeded : (setup : List ℕ) → (seed : ℕ) → Command
run_seeded setup seed =
    on_files (setup_file ∷ [])
    (λ bytes_of. setup_refusal (bytes_of setup))
    (λ bytes_of text.
    (r : IsRunOf (bytes_of setup) text) × (text ≡ played_text r.setup (turns_of seed r.setup)))

-- `race` on a file: it is refused as a run is, and prints some complete run.
abbrev pub race : (setup : List ℕ) → Command
race setup =
    on_files (setup_file ∷ [])
    (λ bytes_of. setup_refusal (bytes_of setup))
    (λ bytes_of text. IsRunOf (bytes_of setup) text)
