-- `show`: the one written spelling of a setup.
use Rattle.std.specs.Prelude.{◌≡◌, ℕ, List, [], ◌∷◌, None, IfOk}
use Rattle.setup_text.specs.Writing.{written_setup}
use Rattle.fb_cli.specs.Command.{unread, setup_at, Role, with_file, Command, on_files, setup_file}

-- The command on a file of this name.
abbrev pub show : (setup : List ℕ) → Command
show setup =
    on_files (setup_file ∷ [])
    (λ bytes_of. with_file Role.Setup setup_at (bytes_of setup) (λ s. None))
    (λ bytes_of text. IfOk (setup_at (unread (bytes_of setup))) (λ s. text ≡ written_setup s))
