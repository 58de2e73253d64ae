-- The commands, and the words that ask for each of them.
use Rattle.std.specs.Prelude.{ℕ, zero, suc, List, [], ◌∷◌, Option, None, Some, codes, if◌then◌else◌}
use Rattle.std.specs.Option.{option_and_then, option_map}
use Rattle.std.specs.Str.{bytes_eq}
use Rattle.std.specs.Result.{result_ok}
use Rattle.fb_text.specs.Number.{number_of}
use Rattle.fb_text.specs.Unread.{number_within}
use Rattle.table_library.specs.declared.kinds.Kind.{Kind}
use Rattle.table_library.specs.Protocols.{kind_named}
use Rattle.usage.specs.Usage.{help_text, page_named, pages, version_text}
use Rattle.fb_cli.specs.Command.{Command, Found, none, found, alone, printing}
use Rattle.fb_cli.specs.Check.{check}
use Rattle.fb_cli.specs.Show.{show}
use Rattle.fb_cli.specs.Run.{race, run, run_seeded}
use Rattle.fb_cli.specs.Replay.{replay}
use Rattle.fb_cli.specs.Fileless.{library, make, tally}
use Rattle.fb_cli.specs.Narrow.{narrow}
use Rattle.fb_cli.specs.Traffic.{traffic, traffic_seeded}
use Rattle.fb_cli.specs.Audit.{audit, audit_seeded, exhibit}
use Rattle.fb_cli.specs.Explain.{explained}

-- The number of 64 bits that a word spells.
abbrev pub seed_of : List ℕ → Option ℕ
seed_of word = result_ok (number_within 18446744073709551615 (number_of word))

-- The number of an exhibit that a word spells.
abbrev pub exhibit_named : List ℕ → Option ℕ
exhibit_named word = option_and_then above_0 (result_ok (number_within 12 (number_of word)))
  where
    above_0 : ℕ → Option ℕ
    above_0 zero = None
    above_0 (suc n) = Some (suc n)

-- The words after a first word, where it is this name, and what is read of them.
abbrev pub words_after : List ℕ → List (List ℕ) → Option (List (List ℕ))
words_after name (word ∷ words) = if bytes_eq word name then Some words else None
words_after name [] = None

abbrev pub after : {X : Type 0}
    → List ℕ → (List (List ℕ) → Option X) → List (List ℕ) → Option X
after name read words = option_and_then read (words_after name words)

-- One word, two words, and a word and, after `seed`, a number.
abbrev pub one : {X : Type 0} → (List ℕ → Option X) → List (List ℕ) → Option X
one read (word ∷ []) = read word
one read words = None

abbrev pub two : List (List ℕ) → Option (List ℕ × List ℕ)
two (word ∷ other ∷ []) = Some (word, other)
two words = None

abbrev pub one_and_seed : List (List ℕ) → Option (List ℕ × ℕ)
one_and_seed (word ∷ seed ∷ number ∷ []) =
    if bytes_eq seed (codes "seed")
    then option_map (λ (n : ℕ). (word, n)) (seed_of number)
    else None
one_and_seed words = None

-- The text of the page of a command.
abbrev pub page_of : List ℕ → Option (List ℕ)
page_of command = page_named command pages

-- The texts that one word asks for, and that of a word among them.
abbrev pub texts : List (List ℕ × List ℕ)
texts =
    (codes "help", help_text)
    ∷ (codes "-h", help_text)
    ∷ (codes "--help", help_text)
    ∷ (codes "version", version_text)
    ∷ (codes "--version", version_text)
    ∷ []

abbrev pub text_in : List (List ℕ × List ℕ) → List ℕ → Option (List ℕ)
text_in [] word = None
text_in (named ∷ more) word = if bytes_eq word named.0 then Some named.1 else text_in more word

-- What was found of what a row read, and else what the rows after it find.
abbrev pub asked : {X : Type 0} → Option X → (X → Found) → Found → Found
asked None finds rest = rest
asked (Some x) finds rest = finds x

-- A row: how it reads words, and its command.
abbrev pub Row : Type 1
Row = List (List ℕ) → Found → Found

abbrev pub row : {X : Type 0} → (List (List ℕ) → Option X) → (X → Command) → Row
row read command words rest = asked (read words) (λ x. found (command x)) rest

-- The rows of the commands that open no file.
abbrev pub fileless_rows : List Row
fileless_rows =
    row (after (codes "make") (one seed_of)) make
    ∷ row (after (codes "tally") (one seed_of)) tally
    ∷ row (after (codes "library") (one kind_named)) library
    ∷ row (after (codes "exhibit") (one exhibit_named)) exhibit
    ∷ row (one (text_in texts)) printing
    ∷ row (after (codes "help") (one page_of)) printing
    ∷ []

-- The rows of the commands that audit a setup, and of those that open no file.
abbrev pub audit_rows : List Row
audit_rows =
    row (after (codes "audit") two) (λ names. audit names.0 names.1)
    ∷ row (after (codes "audit") one_and_seed) (λ named. audit_seeded named.0 named.1)
    ∷ fileless_rows

-- The rows of the commands that study a table or a run, and of those that open no file.
abbrev pub study_rows : List Row
study_rows =
    row (after (codes "narrow") (one Some)) narrow
    ∷ row (after (codes "traffic") two) (λ names. traffic names.0 names.1)
    ∷ row (after (codes "traffic") one_and_seed) (λ named. traffic_seeded named.0 named.1)
    ∷ audit_rows

-- The rows of the commands that take no threads and no other command's words.
abbrev pub quiet_rows : List Row
quiet_rows =
    row (after (codes "check") (one Some)) check
    ∷ row (after (codes "show") (one Some)) show
    ∷ row (after (codes "run") two) (λ names. run names.0 names.1)
    ∷ row (after (codes "run") one_and_seed) (λ named. run_seeded named.0 named.1)
    ∷ row (after (codes "replay") two) (λ names. replay names.0 names.1)
    ∷ study_rows

-- The command of the first row that the words match.
abbrev pub command_in : List Row → List (List ℕ) → Found
command_in [] words = none alone
command_in (row ∷ more) words = row words (command_in more words)

-- The rows of the commands that can be explained: `race` is one of them.
abbrev pub explained_rows : List Row
explained_rows = row (after (codes "race") (one Some)) race ∷ quiet_rows

-- The row of `explain`.
abbrev pub explain_row : Row
explain_row words rest =
    asked (words_after (codes "explain") words) (λ w. explained (command_in explained_rows w)) rest

-- The rows of the commands that take no threads.
abbrev pub plain_rows : List Row
plain_rows = explain_row ∷ quiet_rows

-- The rows of all commands.
abbrev pub all_rows : List Row
all_rows = row (after (codes "race") (one Some)) race ∷ plain_rows
