-- The commands that open no file: `make`, `tally` and `library`.
use Rattle.std.specs.Prelude.{ℕ, List}
use Rattle.setup_text.specs.Writing.{written_setup}
use Rattle.table_text.specs.Writing.{written_table}
use Rattle.bus_model.specs.Entries.{entries}
use Rattle.generator.specs.Generated.{generated}
use Rattle.tally.specs.Tally.{tally_text}
use Rattle.table_library.specs.declared.kinds.Kind.{Kind}
use Rattle.table_library.specs.Protocols.{protocol_table}
use Rattle.fb_cli.specs.Command.{Command, printing}
use Rattle.fb_cli.specs.Run.{played, turns_of}

-- The written spelling of the generated setup of a number.
abbrev pub make : (seed : ℕ) → Command
make seed = printing (written_setup (generated seed))

-- The counts over the events of the generated setup, played by the seeded schedule of the number.
abbrev pub counts_of : ℕ → List ℕ
counts_of seed =
    let events = played (generated seed) (turns_of seed (generated seed)) in
    tally_text seed events (entries events)

abbrev pub tally : (seed : ℕ) → Command
tally seed = printing (counts_of seed)

-- The written spelling of the table of a protocol.
abbrev pub library : Kind → Command
library kind = printing (written_table (protocol_table kind))
