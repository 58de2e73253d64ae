-- What the program says of itself: its commands, the statuses, and its version.
use Rattle.std.specs.Prelude.{List, [], ◌∷◌, ◌++◌, ℕ, Option, None, Some, codes, flat_map, if◌then◌else◌}
use Rattle.std.specs.Str.{bytes_eq}

-- A command: its name, the words that ask for it, what it does, an example, and its statuses.
pub record Page : Type 0 where
  pub name : List ℕ
  pub words : List ℕ
  pub does : List ℕ
  pub example : List ℕ
  pub statuses : List ℕ

-- The commands that take a setup or a text of tables, and run or judge it.
abbrev pub file_pages : List Page
file_pages =
    record {
      name = codes "check";
      words = codes "check FILE";
      does = codes "judges each table of a text of tables or of a setup";
      example = codes "check examples/silent-sharer.table";
      statuses = codes "0 1 3 4 5 6 7";
    }
    ∷ record {
      name = codes "show";
      words = codes "show SETUP";
      does = codes "prints the written spelling of a setup";
      example = codes "show examples/tour.setup";
      statuses = codes "0 3 4 5 6 7";
    }
    ∷ record {
      name = codes "run";
      words = codes "run SETUP SCHEDULE, or run SETUP seed NUMBER";
      does = codes "prints the run of a setup by a schedule, or by drawn turns";
      example = codes "run examples/tour.setup seed 1";
      statuses = codes "0 1 3 4 5 6 7";
    }
    ∷ record {
      name = codes "replay";
      words = codes "replay SETUP TRACE";
      does = codes "prints the ending of the run that a trace tells";
      example = codes "replay examples/tour.setup trace";
      statuses = codes "0 1 3 4 5 6 7";
    }
    ∷ record {
      name = codes "race";
      words = codes "race SETUP";
      does = codes "prints a run of a setup in which each board has a thread";
      example = codes "race examples/tour.setup";
      statuses = codes "0 1 3 4 5 6 7";
    }
    ∷ []

-- The commands that study a table or a run.
abbrev pub study_pages : List Page
study_pages =
    record {
      name = codes "narrow";
      words = codes "narrow TABLE";
      does = codes "prints the largest part of a table that is in the class";
      example = codes "narrow examples/half-exclusive.table";
      statuses = codes "0 3 4 5 6 7 9";
    }
    ∷ record {
      name = codes "traffic";
      words = codes "traffic SETUP SCHEDULE, or traffic SETUP seed NUMBER";
      does = codes "counts what crossed the bus in a run";
      example = codes "traffic examples/mixture.setup seed 1";
      statuses = codes "0 1 3 4 5 6 7";
    }
    ∷ record {
      name = codes "audit";
      words = codes "audit SETUP SCHEDULE, or audit SETUP seed NUMBER";
      does = codes "prints the run of any tables up to the first harm";
      example = codes "audit examples/silent-sharer.setup seed 1";
      statuses = codes "0 3 4 5 6 7 9";
    }
    ∷ []

-- The other commands.
abbrev pub other_pages : List Page
other_pages =
    record {
      name = codes "make";
      words = codes "make NUMBER";
      does = codes "prints the generated setup of a number";
      example = codes "make 1";
      statuses = codes "0 5 6";
    }
    ∷ record {
      name = codes "tally";
      words = codes "tally NUMBER";
      does = codes "prints counts over a run of the generated setup of a number";
      example = codes "tally 1";
      statuses = codes "0 5 6";
    }
    ∷ record {
      name = codes "library";
      words = codes "library NAME";
      does = codes "prints the table of a known protocol: cb, up, wt, wb, ex or un";
      example = codes "library cb";
      statuses = codes "0 5 6";
    }
    ∷ record {
      name = codes "exhibit";
      words = codes "exhibit NUMBER";
      does = codes "prints a run that does harm, of one of 12 tables that are refused";
      example = codes "exhibit 5";
      statuses = codes "5 6 9";
    }
    ∷ record {
      name = codes "explain";
      words = codes "explain WORDS";
      does = codes "says why the command of these words is refused";
      example = codes "explain check examples/silent-sharer.table";
      statuses = codes "0 1 2 3 4 5 6 7 9";
    }
    ∷ record {
      name = codes "help";
      words = codes "help, or help COMMAND";
      does = codes "lists the commands, or says what one takes";
      example = codes "help run";
      statuses = codes "0 5 6";
    }
    ∷ record {
      name = codes "version";
      words = codes "version";
      does = codes "prints the version, and the kit that proves the program";
      example = codes "version";
      statuses = codes "0 5 6";
    }
    ∷ []

-- The commands.
abbrev pub pages : List Page
pages = file_pages ++ (study_pages ++ other_pages)

-- The statuses, and what they mean.
abbrev pub statuses : List (List ℕ)
statuses =
    codes "status 0: done"
    ∷ codes "status 1: a table or a trace is refused"
    ∷ codes "status 2: the words ask for no command"
    ∷ codes "status 3: a text is not in its grammar"
    ∷ codes "status 4: a file was not read"
    ∷ codes "status 5: the output was not written"
    ∷ codes "status 6: memory ran out"
    ∷ codes "status 7: a file is too long"
    ∷ codes "status 9: no part of a table is in the class, or an event of an audit does harm"
    ∷ []

-- A line of text.
abbrev pub line : List ℕ → List ℕ
line text = text ++ 10 ∷ []

-- The line of a command.
abbrev pub page_line : Page → List ℕ
page_line page = line (page.words ++ (codes ": " ++ page.does))

-- All commands, the statuses, and where the documents are.
abbrev pub help_text : List ℕ
help_text =
    flat_map page_line pages
    ++ (flat_map line statuses
    ++ line (codes "documents: README.md, docs/TEXTS.md, docs/MODEL.md, docs/PROOFS.md"))

-- What is said of a command.
abbrev pub page_text : Page → List ℕ
page_text page =
    page_line page
    ++ (line (codes "example: ./futurebus " ++ page.example)
    ++ line (codes "statuses: " ++ page.statuses))

-- The text of the page of this name.
abbrev pub page_named : List ℕ → List Page → Option (List ℕ)
page_named name [] = None
page_named name (page ∷ more) =
    if bytes_eq name page.name then Some (page_text page) else page_named name more

-- The name and the version of the program, and the kit that proves it.
abbrev pub version_text : List ℕ
version_text =
    line (codes "futurebus 1.0")
    ++ line (codes "rattle-kit-13f logic dac8208d650f15bf")
