-- `traffic`: what the boards and memory did on the bus in a run.
use Rattle.std.specs.Prelude.{◌≡◌, ℕ, List, length}
use Rattle.table_library.specs.Lines.{traffic_text}
use Rattle.fb_cli.specs.Command.{Command, Setup, AreSetup}
use Rattle.fb_cli.specs.Run.{AreTurns, played, run, run_seeded, turns_of}

-- The lines of the run of a setup by these turns.
abbrev pub moved_by : Setup → List ℕ → List ℕ
moved_by setup turns = traffic_text (played setup turns) (length setup.boards)

-- The command on files of these names: it is refused where `run` is.
abbrev pub traffic : (setup schedule : List ℕ) → Command
traffic setup schedule =
    record (run setup schedule) {
      prints = λ bytes_of text.
          (s : Setup) × AreSetup s (bytes_of setup)
          × ((turns : List ℕ) × AreTurns s turns (bytes_of schedule) × (text ≡ moved_by s turns));
    }

-- The command on a file and a number.
abbrev pub traffic_seeded : (setup : List ℕ) → (seed : ℕ) → Command
traffic_seeded setup seed =
    record (run_seeded setup seed) {
      prints = λ bytes_of text.
          (s : Setup) × AreSetup s (bytes_of setup) × (text ≡ moved_by s (turns_of seed s));
    }
