-- What a call gives its caller: an output of a command, in the caller's buffer.
use Rattle.std.specs.Prelude.{◌≡◌, ◌⊎◌, ℕ, List, length, take, nat_le, Some, codes, if◌then◌else◌}
use Rattle.fb_cli.specs.Command.{Command, Ends, EndsAs}
use Rattle.fb_cli.specs.Output.{Output, Files, output}
use Rattle.fb_cli.specs.Rows.{command_in, plain_rows}

-- The status of an output whose text is to fit a buffer of so many bytes: 5 where it does not.
abbrev pub fitting : Output → ℕ → ℕ
fitting o room = if nat_le (length o.text) room then o.status else 5

-- An output in a buffer: `count` is the length of its text, and the buffer begins with the text,
-- as far as it has room for it.
pub record Gives (o : Output) (buffer : List ℕ) (status count : ℕ) : Type 0 where
  pub whole : count ≡ length o.text
  pub front : take (length o.text) buffer ≡ take (length buffer) o.text
  pub told : status ≡ fitting o (length buffer)

-- An output of a command on these files is given. Nothing fails but memory.
pub record Given (command : Command) (files : Files) (buffer : List ℕ) (status count : ℕ)
    : Type 0 where
  pub output : Output
  pub ends : Ends command (Some files) ⊥ output
  pub given : Gives output buffer status count

-- The output where memory ran out.
abbrev pub no_memory : Output
no_memory = output 6 (codes "fault memory")

-- An output of what words ask for is given, or that memory ran out.
pub record Answered (words : List (List ℕ)) (files : Files) (buffer : List ℕ) (status count : ℕ)
    : Type 0 where
  pub output : Output
  pub ends : EndsAs (command_in plain_rows words) (Some files) ⊥ output ⊎ (output ≡ no_memory)
  pub given : Gives output buffer status count
