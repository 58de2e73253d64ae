-- `narrow`: the largest part of a table that is in the class.
use Rattle.std.specs.Prelude.{◌≡◌, ℕ, List, [], ◌∷◌, ◌++◌, Option, None, Some, IfOk, codes}
use Rattle.class_relation.specs.Tables.{Table}
use Rattle.setup_text.specs.Alone.{alone_at}
use Rattle.table_text.specs.Writing.{written_table}
use Rattle.table_library.specs.Narrow.{narrow_of}
use Rattle.fb_cli.specs.Command.{unread, Role, Output, output, with_file, Command, on_files, setup_file}

-- The refusal of a table of this name, where there is no such part.
abbrev pub unless_some : List ℕ → Option Table → Option Output
unless_some name None = Some (output 9 (codes "narrow " ++ (name ++ codes ": none")))
unless_some name (Some narrowed) = None

-- The command on a file of this name.
abbrev pub narrow : (table : List ℕ) → Command
narrow table =
    on_files (setup_file ∷ [])
    (λ bytes_of.
    with_file Role.Setup alone_at (bytes_of table) (λ t. unless_some t.name (narrow_of t)))
    (λ bytes_of text.
    IfOk (alone_at (unread (bytes_of table)))
    (λ t. (narrowed : Table) × (narrow_of t ≡ Some narrowed) × (text ≡ written_table narrowed)))
