-- `check`: the verdict on each table of a text of tables or of a setup.
use Rattle.std.specs.Prelude.{◌≡◌, ℕ, List, [], ◌∷◌, Bool, false, None, Result, Ok, Err, IfOk, codes, if◌then◌else◌}
use Rattle.std.specs.Option.{option_map_or}
use Rattle.std.specs.Str.{bytes_eq}
use Rattle.class_relation.specs.Tables.{Table}
use Rattle.fb_text.specs.Unread.{Unread, at_next_line, first}
use Rattle.setup_text.specs.Reading.{Fault, book_at}
use Rattle.fb_cli.specs.Report.{report}
use Rattle.fb_cli.specs.Command.{unread, setup_at, Role, Setup, with_file, if_accepted, Command, on_files, setup_file}

-- Whether a text is one of tables: its first word is `table`.
abbrev pub is_book : Unread → Bool
is_book u =
    option_map_or (λ word. bytes_eq word (codes "table")) (first (at_next_line u).words) false

-- The tables of a text of tables, or of a setup.
abbrev pub tables_of : Result Setup Fault → Result (List Table) Fault
tables_of (Ok setup) = Ok setup.tables
tables_of (Err fault) = Err fault

abbrev pub tables_at : Unread → Result (List Table) Fault
tables_at u = if is_book u then book_at u else tables_of (setup_at u)

-- The command on a file of this name: it prints the report on the tables.
abbrev pub check : (setup : List ℕ) → Command
check setup =
    on_files (setup_file ∷ [])
    (λ bytes_of.
    with_file Role.Setup tables_at (bytes_of setup) (λ tables. if_accepted tables None))
    (λ bytes_of text.
    IfOk (tables_at (unread (bytes_of setup))) (λ tables. text ≡ report tables))
