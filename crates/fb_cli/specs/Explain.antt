-- `explain`: why the command of other words is refused.
use Rattle.std.specs.Prelude.{◌≡◌, ◌++◌, ◌∷◌, [], codes}
use Rattle.explain.specs.Extends.{Extends}
use Rattle.fb_cli.specs.Command.{Command, Found, none, found}

-- What stands for a command: it opens the same files and is refused where the command is, which it
-- tells by the text of the refusal and more after it, and else it prints that there is no fault.
abbrev pub explain : Command → Command
explain command =
    record command {
      prints = λ bytes_of text. text ≡ codes "no fault" ++ 10 ∷ [];
      tells = Extends;
    }

-- What stands for what words ask for. The refusal of words is told in the same way.
abbrev pub explained : Found → Found
explained (none Tells) = none Extends
explained (found command) = found (explain command)
